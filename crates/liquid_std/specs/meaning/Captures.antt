-- The block `capture`.
use Rattle.std.specs.Prelude.{ℕ, List, string_bytes, option_map, Option, None, Some, String, Ok}
use Rattle.std.specs.declared.alloc.Global.{Global}
use Rattle.liquid_scalar.specs.meaning.Scalar.{text}
use Rattle.liquid_value.specs.meaning.Tree.{Tree, scalar}
use Rattle.liquid_runtime.specs.meaning.Frames.{no_frame}
use Rattle.liquid_runtime.specs.meaning.View.{View}
use Rattle.liquid_plugins.specs.meaning.Turning.{answers}
use Rattle.liquid_plugins.specs.meaning.Turns.{TurnShape, capture_turn, Answered}
use Rattle.liquid_tags.specs.meaning.Tags.{assigns}

-- the text that was captured, if it was
abbrev pub text_of : Option (String Global) → Option (List ℕ)
text_of kept = option_map (λ s. string_bytes s) kept

-- a text as a value
abbrev pub text_value : List ℕ → Tree
text_value bytes = scalar (text bytes)

-- the part is captured, without a frame; after that its text is assigned, as by `assign`
abbrev pub captures : {Reg : Type 0} → List ℕ → Option (List ℕ) → View Reg → Answered TurnShape (Option (List ℕ)) Reg
captures name None v = answers (Ok (capture_turn 0 no_frame None)) None v
captures name (Some bytes) v = assigns name (Ok (text_value bytes)) None v
