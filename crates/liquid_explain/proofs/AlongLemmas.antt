-- What is missing along the matches of a rule, one after another.
use Rattle.std.proofs.Common.{◌≡◌, ◌⊎◌, inl, inr, ℕ, List, [], ◌∷◌, Option, ap, subst}
use Rattle.liquid_grammar.specs.meaning.Rules.{Rule, Begins, Repeated, ends, more}
use Rattle.liquid_grammar.specs.steps.Steps.{Reader}
use Rattle.liquid_grammar.proofs.Exact.{Exact, same_match}
use Rattle.liquid_explain.specs.declared.part.Part.{Part}
use Rattle.liquid_explain.specs.declared.stop.Stop.{Stop}
use Rattle.liquid_explain.specs.meaning.Misses.{Misses, After, Either, this, that, Along, here, further}
use Rattle.liquid_explain.specs.meaning.Farthest.{IsFarthest, Ends}
use Rattle.liquid_explain.specs.steps.Farther.{farther}
use Rattle.liquid_explain.proofs.FarthestLemmas.{far_same, either_far}

-- matches from s to rest, one after another
pub data Walked {A : Type 0} (R : Rule A) (s : List ℕ) : List ℕ → Type 0 where
  start : Walked R s s
  step : {middle rest : List ℕ} (shape : A) → Walked R s middle → R middle rest shape → Walked R s rest

-- what is missing at this place, seen from any
abbrev pub From : Misses → List ℕ → Misses
From M place _ = M place

-- what is missing at the places of a walk
abbrev pub Passed : {A : Type 0} {R : Rule A} (M : Misses) (s rest : List ℕ) → Walked R s rest → Misses
Passed M s _ start = From M s
Passed M s rest (step {middle = middle} shape walk match) = Either (Passed M s middle walk) (From M rest)

pub start_far : {A : Type 0} (R : Rule A) {M : Misses} (s : List ℕ) (stop : Option Stop) → IsFarthest M s stop
    → IsFarthest (Passed {R = R} M s s start) s stop
start_far R {M = M} s stop far = far_same {M = M} {N = From M s} s s stop (λ place part m. m) (λ place part m. m) far

pub step_far : {A : Type 0} {R : Rule A} {M : Misses} (s middle rest : List ℕ) (shape : A) (walk : Walked R s middle)
    (match : R middle rest shape) (a b r : Option Stop) → r ≡ farther a b → IsFarthest (Passed M s middle walk) s a
    → IsFarthest M rest b → IsFarthest (Passed M s rest (step shape walk match)) s r
step_far {M = M} s middle rest shape walk match a b r e f g =
    either_far {M = Passed M s middle walk} {N = From M rest} s a b r e f
    (far_same {M = M} {N = From M rest} rest s b (λ place part m. m) (λ place part m. m) g)

along_from : {A : Type 0} {R : Rule A} {M : Misses} (s rest place : List ℕ) (part : Part) → Walked R s rest → Along R M rest place part
    → Along R M s place part
along_from s _ place part start m = m
along_from s rest place part (step {middle = middle} shape walk match) m =
    along_from s middle place part walk (further match m)

passed_along : {A : Type 0} {R : Rule A} {M : Misses} (s rest place : List ℕ) (part : Part) (walk : Walked R s rest)
    → Passed M s rest walk s place part → Along R M s place part
passed_along s _ place part start m = here m
passed_along s rest place part (step {middle = middle} shape walk match) (this m) = passed_along s middle place part walk m
passed_along s rest place part (step {middle = middle} shape walk match) (that m) =
    along_from s rest place part (step shape walk match) (here m)

along_passed : {A : Type 0} {f : Reader A} {R : Rule A} {M : Misses} → Exact f R → (s rest place : List ℕ) (part : Part)
    (walk : Walked R s rest) → Along R M s place part → Passed M s rest walk s place part ⊎ After R (Along R M) rest place part
along_passed exact s _ place part start (here m) = inl m
along_passed exact s _ place part start (further {middle = middle} {shape = shape} match m) =
    inr (record { middle = middle; shape = shape; before = match; misses = m })
along_passed {R = R} {M = M} exact s rest place part (step {middle = middle} shape walk match) m =
    elim (along_passed exact s middle place part walk m) [ inl x ↦ inl (this x) | inr x ↦ next x ]
  where
    at_rest : Along R M rest place part → Passed M s rest (step shape walk match) s place part ⊎ After R (Along R M) rest place part
    at_rest (here m) = inl (that m)
    at_rest (further {middle = middle} {shape = shape} match m) =
        inr (record { middle = middle; shape = shape; before = match; misses = m })

    next : After R (Along R M) middle place part
        → Passed M s rest (step shape walk match) s place part ⊎ After R (Along R M) rest place part
    next x =
        at_rest (subst (λ (t : List ℕ). Along R M t place part) (ap (λ y. y.1) (same_match exact middle _ _ _ _ x.before match)) x.misses)

-- at the end of the walk, what is missing along the rule is what is missing at the walk's places
pub along_far : {A : Type 0} {f : Reader A} {R : Rule A} {M : Misses} → Exact f R → (s rest : List ℕ) (walk : Walked R s rest)
    (stop : Option Stop) → ¬ (Begins R rest) → IsFarthest (Passed M s rest walk) s stop → IsFarthest (Along R M) s stop
along_far {R = R} {M = M} exact s rest walk stop none far =
    far_same {M = Passed M s rest walk} {N = Along R M} s s stop (λ place part. passed_along s rest place part walk)
    (λ place part m. elim (along_passed exact s rest place part walk m) [
      | inl x ↦ x
      | inr x ↦ absurd (none (record { rest = x.middle; shape = x.shape; match = x.before }))
    ]) far

-- a walk to where the rule ends is a repetition of it
pub walked_all : {A : Type 0} {R : Rule A} (s rest : List ℕ) → Walked R s rest → ¬ (Begins R rest) → Ends (Repeated R) s rest
walked_all {A} {R} s rest walk none = go s rest walk (record { shape = []; match = ends none })
  where
    go : (s middle : List ℕ) → Walked R s middle → Ends (Repeated R) middle rest → Ends (Repeated R) s rest
    go s _ start m = m
    go s _ (step {middle = middle} shape walk match) m = go s middle walk (record { shape = shape ∷ m.shape; match = more match m.match })
