-- The frames that are open above a base, by what they restore when they end, innermost first.
use Rattle.std.specs.Prelude.{◌≡◌, List, [], ◌∷◌}
use Rattle.liquid_runtime.specs.meaning.View.{View}
use Rattle.liquid_runtime.specs.meaning.Frames.{Restore, scope_base, ending}

-- those above the nearest base
abbrev pub opened : {Reg : Type 0} → List (Restore Reg) → List (Restore Reg)
opened [] = []
opened (scope_base ∷ rs) = []
opened (r ∷ rs) = r ∷ opened rs

-- the innermost frame has ended
pub record EndsFirst {Reg : Type 0} (before : List (Restore Reg)) (old : View Reg) (after : List (Restore Reg))
    (new : View Reg) : Type 0 where
  pub restores : Restore Reg
  pub was_first : before ≡ restores ∷ after
  pub is_ended : new ≡ ending restores old
