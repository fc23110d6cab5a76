-- Nodes whose result does not depend on hidden globals.
use Rattle.std.specs.Prelude.{◌≡◌, false, Some, unwrap_or}
use Rattle.std.specs.FinMap.{empty}
use Rattle.liquid_runtime.specs.meaning.Maps.{Names, over}
use Rattle.liquid_runtime.specs.meaning.View.{View}
use Rattle.liquid_plugins.specs.meaning.Turns.{Answered, NodeMeaning}

-- the view with its globals hidden, and these in their place
abbrev pub hiding : {Reg : Type 0} → Names → View Reg → View Reg
hiding assigned v = record v { globals = Some assigned; shown = false }

-- the same, except that the globals left are these overlaid by those that it leaves
abbrev pub overlaid : {A P Reg : Type 0} → Names → Answered A P Reg → Answered A P Reg
overlaid assigned t = record t { written = record t.written { globals = Some (over (unwrap_or t.written.globals empty) assigned) } }

-- the result under hidden globals is the result under empty ones, and the globals left are the old ones overlaid
abbrev pub HidesGlobals : {A P Reg : Type 0} → (View Reg → Answered A P Reg) → Type 0
HidesGlobals {Reg = Reg} call = (assigned : Names) (v : View Reg) → call (hiding assigned v) ≡ overlaid assigned (call (hiding empty v))

-- each start and each turn has this property
pub record Discreet {N P Reg : Type 0} (m : NodeMeaning N P Reg) : Type 0 where
  pub start : (n : N) → HidesGlobals (m.starts n)
  pub turn : (n : N) (p : P) → HidesGlobals (m.takes n p)
