-- The calls that set a name: what they return, and what they leave.
use Rattle.std.specs.Prelude.{ℕ, List, codes, Option, None, Some, Result, Ok, Err, option_map}
use Rattle.std.specs.FinMap.{get, insert}
use Rattle.liquid_error.specs.meaning.Refusal.{Refusal, plain}
use Rattle.liquid_value.specs.meaning.Tree.{Tree}
use Rattle.liquid_runtime.specs.meaning.Maps.{Names}
use Rattle.liquid_runtime.specs.meaning.View.{View}

-- the refusals of a runtime without a frame for such names
abbrev pub no_global_frame : Refusal
no_global_frame = plain (codes "No global frame")

abbrev pub no_index_frame : Refusal
no_index_frame = plain (codes "No index frame")

-- the old value, if the name had one; refused if there is no map
abbrev pub old_value : Refusal → Option Names → List ℕ → Result (Option Tree) Refusal
old_value refusal None name = Err refusal
old_value refusal (Some names) name = Ok (get names name)

-- what `set_global` returns, and the view that it leaves: the name is assigned, wherever the nearest global frame is
abbrev pub old_global : {Reg : Type 0} → View Reg → List ℕ → Result (Option Tree) Refusal
old_global v name = old_value no_global_frame v.globals name

abbrev pub put_global : {Reg : Type 0} → View Reg → List ℕ → Tree → View Reg
put_global v name t = record v { globals = option_map (λ names. insert names name t) v.globals }

-- the same for `set_index`
abbrev pub old_index : {Reg : Type 0} → View Reg → List ℕ → Result (Option Tree) Refusal
old_index v name = old_value no_index_frame v.index name

abbrev pub put_index : {Reg : Type 0} → View Reg → List ℕ → Tree → View Reg
put_index v name t = record v { index = option_map (λ names. insert names name t) v.index }
