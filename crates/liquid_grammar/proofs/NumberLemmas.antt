-- A number, from its whole part and the fraction after it.
use Rattle.std.proofs.Common.{◌≡◌, ℕ, ◌-◌, List, length, take, Option, Some, None, option_map, option_and_then, refl, sym, ap, ◌∙◌}
use Rattle.std.specs.Option.{option_or}
use Rattle.liquid_grammar.specs.meaning.Literals.{Literal, decimal, integer}
use Rattle.liquid_grammar.specs.steps.Steps.{seen}
use Rattle.liquid_grammar.specs.steps.TokenSteps.{whole, fraction, fractional, longest_number}
use Rattle.liquid_grammar.proofs.HeadLemmas.{seen_none, either_none, fractional_none}

abbrev Cut : Type 0
Cut = List ℕ × List ℕ

cut_shape : (s text : List ℕ) (o : Option ((ℕ × List ℕ) × List ℕ))
    → let pair : (ℕ × List ℕ) × List ℕ → (List ℕ × (ℕ × List ℕ)) × List ℕ = λ b. ((text, b.0), b.1) in
    let cut : (List ℕ × (ℕ × List ℕ)) × List ℕ → Cut = λ a. (take (length s - length a.1) s, a.1) in
    option_map cut (option_map pair o) ≡ option_map (λ r. (take (length s - length r) s, r)) (option_map (λ p. p.1) o)
cut_shape s text (Some b) = refl
cut_shape s text None = refl

fractional_is : (s text end : List ℕ) → Some (text, end) ≡ whole s → fractional s ≡ option_map (λ r. (take (length s - length r) s, r))
    (option_map (λ p. p.1) (fraction end))
unfolding fractional
fractional_is s text end e =
    let cut : (List ℕ × (ℕ × List ℕ)) × List ℕ → Cut = λ a. (take (length s - length a.1) s, a.1) in
    let next : Cut → Option ((List ℕ × (ℕ × List ℕ)) × List ℕ) = λ a. option_map (λ b. ((a.0, b.0), b.1)) (fraction a.1) in
    ap (λ o. option_map cut (option_and_then next o)) (sym e) ∙ cut_shape s text (fraction end)

abbrev numbers : Option Cut → Option Cut → Option (Literal × List ℕ)
numbers d i = option_or (option_map (λ a. (decimal a.0, a.1)) d) (option_map (λ a. (integer a.0, a.1)) i)

pub with_fraction : (s text end rest front : List ℕ) → Some (text, end) ≡ whole s → Some rest ≡ option_map (λ p. p.1) (fraction end)
    → front ≡ take (length s - length rest) s → Some (decimal front, rest) ≡ longest_number s
with_fraction s text end rest front e f is =
    let cut : List ℕ → Cut = λ r. (take (length s - length r) s, r) in
    let made : List ℕ → Option (Literal × List ℕ) = λ t. Some (decimal t, rest) in
    ap made is ∙ ap (λ o. numbers (option_map cut o) (whole s)) f ∙ ap (λ o. numbers o (whole s)) (sym (fractional_is s text end e))

pub without_fraction : (s text end : List ℕ) → Some (text, end) ≡ whole s → None ≡ option_map (λ p. p.1) (fraction end)
    → Some (integer text, end) ≡ longest_number s
without_fraction s text end e f =
    let cut : List ℕ → Cut = λ r. (take (length s - length r) s, r) in
    ap (λ o. numbers None o) e ∙ ap (λ o. numbers (option_map cut o) (whole s)) f
    ∙ ap (λ o. numbers o (whole s)) (sym (fractional_is s text end e))

pub no_longest : (s : List ℕ) → None ≡ whole s → None ≡ longest_number s
no_longest s e = sym (either_none (seen decimal fractional) (seen integer whole) s
    (seen_none decimal fractional s (fractional_none s (sym e))) (seen_none integer whole s (sym e)))
