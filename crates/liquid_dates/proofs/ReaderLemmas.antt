-- Names found one by one.
use Rattle.std.proofs.Common.{◌≡◌, ℕ, suc, ◌+◌, ◌-◌, ◌<◌, ◌≤◌, true, false, List, refl, arith, ◌∙◌, Some, None}
use Rattle.std.specs.Str.{bytes_eq}
use Rattle.liquid_dates.specs.steps.DateReader.{find_name}

find_suc : (name : ℕ → List ℕ) (front : List ℕ) (n k m : ℕ) → n ≡ suc k → find_name name front n m ≡ find_name name front (suc k) m
find_suc name front n k m e = rw e

pub find_hit : (name : ℕ → List ℕ) (front : List ℕ) (top m : ℕ) → m < top → bytes_eq (name m) front ≡ true
    → find_name name front (top - m) m ≡ Some m
unfolding find_name
find_hit name front top m h e = find_suc name front (top - m) (top - (m + 1)) m (omega arith) ∙ rw e refl

pub find_miss : (name : ℕ → List ℕ) (front : List ℕ) (top m : ℕ) → m < top → bytes_eq (name m) front ≡ false
    → find_name name front (top - m) m ≡ find_name name front (top - (m + 1)) (m + 1)
unfolding find_name
find_miss name front top m h e = find_suc name front (top - m) (top - (m + 1)) m (omega arith) ∙ rw e refl

pub find_end : (name : ℕ → List ℕ) (front : List ℕ) (top m : ℕ) → top ≤ m → find_name name front (top - m) m ≡ None
unfolding find_name
find_end name front top m h = let e : top - m ≡ 0 = omega arith in rw e refl
