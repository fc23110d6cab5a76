-- Calls of scopes of one kind.
use Rattle.std.specs.Prelude.{List}
use Rattle.liquid_runtime.specs.meaning.Frames.{Restore}
use Rattle.liquid_runtime.specs.meaning.View.{View}
use Rattle.liquid_scopes.specs.meaning.Histories.{Answer, Call, Makes}

-- what a call returns and leaves, by what the scopes show and what their open frames restore
abbrev pub Leaves : {Reg S : Type 0} → (S → View Reg) → (S → List (Restore Reg)) → Reg → Call → S → Answer → S → Type 0
Leaves view restores fresh call before answer after = Makes fresh call (view before) (restores before) answer (view after) (restores after)
