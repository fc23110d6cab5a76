-- The whole run of a `for`.
use Rattle.std.specs.Prelude.{ℕ, List, [], ◌∷◌, length, Result, Ok, Err}
use Rattle.liquid_error.specs.meaning.Refusal.{Refusal}
use Rattle.liquid_value.specs.meaning.Tree.{Tree}
use Rattle.liquid_template.specs.meaning.Actions.{asks, and_then, refuses}
use Rattle.liquid_template.specs.meaning.Run.{Action}
use Rattle.liquid_tags.specs.laws.LoopRuns.{loop_run}

-- one part, after its checkpoint
abbrev pub part_alone : {Reg : Type 0} → Action Reg → Action Reg
part_alone part v = and_then (asks v) part

-- over no item it is the part after `else`, and otherwise the body for each item in order
abbrev pub for_run : {Reg : Type 0} → Reg → List ℕ → Action Reg → Action Reg → Result (List Tree) Refusal → Action Reg
for_run fresh name body otherwise (Err refusal) = refuses refusal
for_run fresh name body otherwise (Ok []) = part_alone otherwise
for_run fresh name body otherwise (Ok (t ∷ ts)) = loop_run fresh name (length (t ∷ ts)) body t ts
