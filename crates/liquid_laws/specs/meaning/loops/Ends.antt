-- How a run ends.
use Rattle.std.specs.Prelude.{◌≡◌, ℕ, List, None}
use Rattle.liquid_runtime.specs.meaning.View.{View}
use Rattle.liquid_template.specs.meaning.Run.{Run, written}

-- a run that is not refused, writes this text, and leaves this view
abbrev pub Ends : {Reg : Type 0} → Run Reg → List ℕ → View Reg → Type 0
Ends r text v = (r.refusal ≡ None) × (written r ≡ text) × (r.view ≡ v)
