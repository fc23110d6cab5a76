-- What passes a gate, one action after another.
use Rattle.std.proofs.Common.{◌≡◌, ℕ, ◌+◌, true, false, Option, Some, None, inl, inr, refl, ap, subst, ◌∙◌, arith, option_map}
use Rattle.liquid_template.specs.meaning.Output.{IsPast, Passed, asked, Passes, Refuses, PassesUpTo}

add_none : (p : Passed) → p ≡ asked true 0 p
add_none p = ap (λ n. record p { count = n }) (omega arith)

add_both : (p : Passed) (k n : ℕ) → asked true n (asked true k p) ≡ asked true (k + n) p
add_both p k n = ap (λ i. record p { count = i }) (omega arith)

pub passes_none : (o : Option Passed) → Passes o 0 o
passes_none None = refl
passes_none (Some p) = ap Some (add_none p)

pub passes_then : (b m a : Option Passed) (k n : ℕ) → Passes b k m → Passes m n a → Passes b (k + n) a
passes_then None m a k n h i = i ∙ ap (option_map (asked true n)) h
passes_then (Some p) m a k n h i = i ∙ ap (option_map (asked true n)) h ∙ ap Some (add_both p k n)

pub refuses_then : (b m a : Option Passed) (k n more : ℕ) → Passes b k m → Refuses m n more a → Refuses b (k + n) more a
refuses_then None m a k n more h i = subst (λ o. Refuses o n more a) h i
refuses_then (Some p) m a k n more h i =
    subst (λ q. (a ≡ Some (asked false 0 q)) × IsPast q more) (add_both p k n) (subst (λ o. Refuses o n more a) h i)

pub up_to_then : (b m a : Option Passed) (k n : ℕ) → Passes b k m → PassesUpTo m n a → PassesUpTo b (k + n) a
up_to_then b m a k n h (inl i) = inl (passes_then b m a k n h i)
up_to_then b m a k n h (inr i) = inr (i.0, refuses_then b m a k n i.0 h i.1)

pub passes_at : (b a : Option Passed) (m n : ℕ) → m ≡ n → Passes b m a → Passes b n a
passes_at b a m n e h = subst (λ i. Passes b i a) e h

pub up_to_at : (b a : Option Passed) (m n : ℕ) → m ≡ n → PassesUpTo b m a → PassesUpTo b n a
up_to_at b a m n e h = subst (λ i. PassesUpTo b i a) e h

pub refuses_at : (b a : Option Passed) (m n more : ℕ) → m ≡ n → Refuses b m more a → Refuses b n more a
refuses_at b a m n more e h = subst (λ i. Refuses b i more a) e h
