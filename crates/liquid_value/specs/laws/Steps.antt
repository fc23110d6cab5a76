-- Walks over an object.
use Rattle.std.specs.Prelude.{◌≡◌, ℕ, suc, Option, MatchOption}

-- a step of a walk: an item, and one fewer is left; or no item, none was left and none is left
abbrev pub CountsDown : {A : Type 0} → ℕ → Option A → ℕ → Type 0
CountsDown before item after = MatchOption item ((before ≡ 0) × (after ≡ 0)) (λ _. before ≡ suc after)
