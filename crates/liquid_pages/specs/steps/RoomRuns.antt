-- A call that renders over a runtime, for proofs alone: `view` is what contracts see of the runtime, which is given as it was before
-- and after the call, and so is the sink.
use Rattle.std.specs.Prelude.{Result}
use Rattle.liquid_error.specs.declared.error.Error.{Error}
use Rattle.liquid_runtime.specs.meaning.View.{View}
use Rattle.liquid_template.specs.meaning.Outcome.{Renders}
use Rattle.liquid_template.specs.meaning.Run.{Action}
use Rattle.liquid_template.specs.meaning.Sunk.{Sunk}

abbrev pub RendersOn : {R K Reg : Type 0} → (R → View Reg) → (K → Sunk) → Action Reg → R → R → K → K → Result (Unit {0}) Error → Type 0
RendersOn view sunk action runtime left before after answer =
    Renders (action (view runtime)) (view runtime) (sunk before) (sunk after) (view left) answer
