-- The farthest place at which something is missing, and all that is missing there.
use Rattle.std.specs.Prelude.{◌≡◌, ℕ, ◌≤◌, Bool, true, List, length, Option, MatchOption}
use Rattle.liquid_grammar.specs.meaning.Rules.{Rule}
use Rattle.liquid_explain.specs.declared.part.Part.{Part}
use Rattle.liquid_explain.specs.declared.stop.Stop.{Stop}
use Rattle.liquid_explain.specs.meaning.Parts.{has}
use Rattle.liquid_explain.specs.meaning.Misses.{Misses}

-- this part is missing where so many bytes are left
pub record MissesAt (M : Misses) (s : List ℕ) (left : ℕ) (part : Part) : Type 0 where
  pub place : List ℕ
  pub is_left : length place ≡ left
  pub misses : M s place part

-- nothing is missing farther on, the parts of the stop are just those that are missing there, and there is such a part
pub record IsFarthestStop (M : Misses) (s : List ℕ) (stop : Stop) : Type 0 where
  pub farthest : (place : List ℕ) (part : Part) → M s place part → stop.left ≤ length place
  pub all : (part : Part) → MissesAt M s stop.left part → has stop.expected part ≡ true
  pub only : (part : Part) → has stop.expected part ≡ true → MissesAt M s stop.left part
  pub some : (part : Part) × (has stop.expected part ≡ true)

-- the stop is the farthest one, or nothing is missing
pub record IsFarthest (M : Misses) (s : List ℕ) (stop : Option Stop) : Type 0 where
  pub found : MatchOption stop ((place : List ℕ) (part : Part) → ¬ (M s place part)) (IsFarthestStop M s)

-- a match of the rule at s leaves this
pub record Ends {A : Type 0} (R : Rule A) (s rest : List ℕ) : Type 0 where
  pub shape : A
  pub match : R s rest shape
