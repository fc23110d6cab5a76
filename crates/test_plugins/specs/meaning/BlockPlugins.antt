-- The names of the test blocks, and what they make from their tokens and bodies.
use Rattle.std.specs.Prelude.{ℕ, List, [], ◌∷◌, Bool, true, false, codes, Result, Ok, Err}
use Rattle.liquid_error.specs.meaning.Refusal.{Refusal, ok_then}
use Rattle.liquid_parser.specs.meaning.Handed.{Tokens}
use Rattle.liquid_parser.specs.meaning.Lang.{Block, BlockMeaning, BlockNames, Body, parts, escaped}
use Rattle.test_plugins.specs.meaning.Asked.{name_and_value, nothing_for}
use Rattle.test_plugins.specs.declared.block_plugins.Blocks.{Blocks}
use Rattle.test_plugins.specs.declared.block_plugins.Blocks.TheVariants as blocks
use Rattle.test_plugins.specs.declared.block_plugins.HostileBlocks.{HostileBlocks}
use Rattle.test_plugins.specs.declared.block_plugins.HostileBlocks.TheVariants as hostile
use Rattle.test_plugins.specs.declared.blocks.BlockShape.{BlockShape}
use Rattle.test_plugins.specs.declared.blocks.BlockShape.TheVariants as shape
use Rattle.test_plugins.specs.declared.hostile.HostileBlockShape.{HostileBlockShape}
use Rattle.test_plugins.specs.declared.hostile.HostileBlockShape.TheVariants as hostile_shape

abbrev pub start_of : Blocks → List ℕ
start_of blocks.Box = codes "box"
start_of blocks.Sbox = codes "sbox"
start_of blocks.Swap = codes "swap"
start_of blocks.Raw = codes "raw"
start_of blocks.With = codes "with"
start_of blocks.Glob = codes "glob"

abbrev pub end_of : Blocks → List ℕ
end_of blocks.Box = codes "endbox"
end_of blocks.Sbox = codes "endsbox"
end_of blocks.Swap = codes "endswap"
end_of blocks.Raw = codes "endraw"
end_of blocks.With = codes "endwith"
end_of blocks.Glob = codes "endglob"

abbrev pub dividers_of : Blocks → List (List ℕ)
dividers_of blocks.Box = []
dividers_of blocks.Sbox = []
dividers_of blocks.Swap = codes "mid" ∷ []
dividers_of blocks.Raw = []
dividers_of blocks.With = []
dividers_of blocks.Glob = []

abbrev pub escapes_of : Blocks → Bool
escapes_of blocks.Box = false
escapes_of blocks.Sbox = false
escapes_of blocks.Swap = false
escapes_of blocks.Raw = true
escapes_of blocks.With = false
escapes_of blocks.Glob = false

-- `with` takes a name and a value, the others nothing; what is planned is the block itself
abbrev pub begun : Blocks → Tokens → Result BlockShape Refusal
begun blocks.Box ts = nothing_for shape.Box ts
begun blocks.Sbox ts = nothing_for shape.Sbox ts
begun blocks.Swap ts = nothing_for shape.Swap ts
begun blocks.Raw ts = nothing_for (shape.Raw []) ts
begun blocks.With ts = ok_then (name_and_value ts) (λ given. Ok (shape.With given.0 given.1))
begun blocks.Glob ts = nothing_for shape.Glob ts

-- `raw` is the text of its body
abbrev pub finished : BlockShape → Body → Result BlockShape Refusal
finished (shape.Raw slice) (escaped t) = Ok (shape.Raw t)
finished (shape.Raw slice) (parts n) = Ok (shape.Raw slice)
finished shape.Box body = Ok shape.Box
finished shape.Sbox body = Ok shape.Sbox
finished shape.Swap body = Ok shape.Swap
finished (shape.With name e) body = Ok (shape.With name e)
finished shape.Glob body = Ok shape.Glob

-- dividers take no token and change nothing
abbrev pub block_meaning : {F : Type 0} → Blocks → BlockMeaning F BlockShape BlockShape
block_meaning b = record {
  dividers = dividers_of b;
  escapes = escapes_of b;
  nests = false;
  begin = λ filters ts. begun b ts;
  divide = λ plan name ts. nothing_for plan ts;
  finish = finished;
}

-- a block with the names of its tags
abbrev pub names_told : Blocks → BlockNames
names_told b = record { start_name = start_of b; end_name = end_of b }

abbrev pub whole_block : {F : Type 0} → Blocks → Block F BlockShape BlockShape
whole_block b = record { names = names_told b; means = block_meaning b }

-- the same for the malicious blocks; `odd` is a box and has the names of one, `early` is a `swap` whose end has its
-- divider's name
abbrev pub hostile_start_of : HostileBlocks → List ℕ
hostile_start_of (hostile.Plain b) = start_of b
hostile_start_of hostile.Far = codes "far"
hostile_start_of hostile.Odd = codes "box"
hostile_start_of hostile.Early = codes "early"

abbrev pub hostile_end_of : HostileBlocks → List ℕ
hostile_end_of (hostile.Plain b) = end_of b
hostile_end_of hostile.Far = codes "endfar"
hostile_end_of hostile.Odd = codes "endbox"
hostile_end_of hostile.Early = codes "mid"

abbrev pub hostile_dividers_of : HostileBlocks → List (List ℕ)
hostile_dividers_of (hostile.Plain b) = dividers_of b
hostile_dividers_of hostile.Far = []
hostile_dividers_of hostile.Odd = []
hostile_dividers_of hostile.Early = codes "mid" ∷ []

abbrev pub hostile_escapes_of : HostileBlocks → Bool
hostile_escapes_of (hostile.Plain b) = escapes_of b
hostile_escapes_of hostile.Far = false
hostile_escapes_of hostile.Odd = false
hostile_escapes_of hostile.Early = false

abbrev pub hostile_begun : HostileBlocks → Tokens → Result HostileBlockShape Refusal
hostile_begun (hostile.Plain b) ts = ok_then (begun b ts) (λ plan. Ok (hostile_shape.Plain plan))
hostile_begun hostile.Far ts = nothing_for hostile_shape.Far ts
hostile_begun hostile.Odd ts = nothing_for (hostile_shape.Plain shape.Box) ts
hostile_begun hostile.Early ts = nothing_for (hostile_shape.Plain shape.Swap) ts

abbrev pub hostile_finished : HostileBlockShape → Body → Result HostileBlockShape Refusal
hostile_finished (hostile_shape.Plain plan) body = ok_then (finished plan body) (λ n. Ok (hostile_shape.Plain n))
hostile_finished hostile_shape.Far body = Ok hostile_shape.Far

abbrev pub hostile_meaning : {F : Type 0} → HostileBlocks → BlockMeaning F HostileBlockShape HostileBlockShape
hostile_meaning b = record {
  dividers = hostile_dividers_of b;
  escapes = hostile_escapes_of b;
  nests = false;
  begin = λ filters ts. hostile_begun b ts;
  divide = λ plan name ts. nothing_for plan ts;
  finish = hostile_finished;
}

abbrev pub hostile_names_told : HostileBlocks → BlockNames
hostile_names_told b = record { start_name = hostile_start_of b; end_name = hostile_end_of b }

abbrev pub whole_hostile_block : {F : Type 0} → HostileBlocks → Block F HostileBlockShape HostileBlockShape
whole_hostile_block b = record { names = hostile_names_told b; means = hostile_meaning b }
