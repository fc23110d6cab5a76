use Rattle.std.proofs.Common.{◌≡◌, ◌≤◌, ◌-◌, ◌+◌, ℕ, List, length, Option, Some, None, MatchOption, Bor, subst, arith}
use Rattle.std.specs.List.{slice_range}
use Rattle.std.specs.Str.{IsCharBoundary}
use Rattle.std.proofs.lemmas.Str.{IsCharBoundary-start}
use Rattle.liquid_explain.proofs.position.front_of.Goals as goal

front_cases : (text : List ℕ) (left k : ℕ) (r : Option (Bor (List ℕ))) → k ≡ length text - left → left ≤ length text
    → IsCharBoundary text 0
    → MatchOption r (0 ≤ k → IsCharBoundary text 0 → ¬ (IsCharBoundary text k))
    (λ x. (x.now ≡ slice_range text 0 k) × (length x.now + 0 ≡ k) × (k ≤ length text))
    → MatchOption r (left ≤ length text → ¬ (IsCharBoundary text (length text - left)))
    (λ front. (left ≤ length text) × (front.now ≡ slice_range text 0 (length text - left)))
front_cases text left k None e within start cases =
    λ _. subst (λ (n : ℕ). ¬ (IsCharBoundary text n)) e (cases (omega arith) start)
front_cases text left k (Some x) e within start cases =
    (within, subst (λ (n : ℕ). x.now ≡ slice_range text 0 n) e cases.0)

pub returns : goal.returns
returns c =
    let text = c.args.text.now in
    let e : c.in_ok-checked_sub.field-0 ≡ length text - c.args.left = omega (arith, c.in_ok-checked_sub.ensures) in
    let within : c.args.left ≤ length text = omega (arith, c.in_ok-checked_sub.ensures) in
    front_cases text c.args.left _ c.get.result e within (IsCharBoundary-start text c.utf8.text) c.get.ensures.cases
