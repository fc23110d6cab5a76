-- Too few words for a date, and too many for a time.
use Rattle.std.proofs.Common.{◌≡◌, ℕ, ◌<◌, ◌≤◌, List, [], ◌∷◌, length, map, None, refl, arith}
use Rattle.std.specs.Borrow.{Bor}
use Rattle.filter_dates.specs.meaning.ClockText.{time_in_words}
use Rattle.filter_dates.specs.meaning.MomentText.{in_words}

pub too_many : (ws : List (Bor (List ℕ))) → 3 ≤ length ws → None ≡ time_in_words (map (λ w. w.now) ws)
too_many [] h = absurd (omega arith)
too_many (a ∷ []) h = absurd (omega arith)
too_many (a ∷ b ∷ []) h = absurd (omega arith)
too_many (a ∷ b ∷ c ∷ ws) h = refl

pub too_few : (ws : List (Bor (List ℕ))) → length ws < 3 → None ≡ in_words (map (λ w. w.now) ws)
too_few [] h = refl
too_few (a ∷ []) h = refl
too_few (a ∷ b ∷ []) h = refl
too_few (a ∷ b ∷ c ∷ ws) h = absurd (omega arith)
