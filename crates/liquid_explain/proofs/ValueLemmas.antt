-- What is missing in values.
use Rattle.std.proofs.Common.{◌≡◌, ℕ, zero, suc, List, ◌∷◌, length, Option, Some, None, refl, sym, ◌∙◌, subst, arith}
use Rattle.std.proofs.lemmas.Bool.{eqb-true}
use Rattle.liquid_grammar.specs.meaning.Rules.{Begins, Byte}
use Rattle.liquid_grammar.specs.meaning.Values.{Value, OpenBracket, ValueRule, VariableRule}
use Rattle.liquid_grammar.proofs.TokenExact.{exact-value, exact-variable, exact-open_bracket}
use Rattle.liquid_explain.specs.declared.part.Part.{Part}
use Rattle.liquid_explain.specs.declared.part.Part.TheVariants as part
use Rattle.liquid_explain.specs.declared.stop.Stop.{Stop}
use Rattle.liquid_explain.specs.meaning.Parts.{only}
use Rattle.liquid_explain.specs.meaning.Misses.{Misses, After, Either}
use Rattle.liquid_explain.specs.meaning.Values.{
  Quote,
  NoValue,
  plain,
  quoted,
  MemberMisses,
  BracketMisses,
  IndexMisses,
  ValueOver,
  NestedMisses,
}
use Rattle.liquid_explain.specs.meaning.Farthest.{IsFarthest}
use Rattle.liquid_explain.specs.steps.Farther.{stop_at, farther}
use Rattle.liquid_explain.proofs.FarthestLemmas.{far_same, nothing_far, wanted_far, after_far, no_after, either_far, first_far, second_far}
use Rattle.liquid_explain.proofs.RuleLemmas.{variable_is_value}

pub not_nested : (n : ℕ) (s : List ℕ) → n ≡ 0 → IsFarthest (NestedMisses n) s None
unfolding NestedMisses
not_nested zero s e = nothing_far s (λ place part m. m)
not_nested (suc n) s e = absurd (omega arith)

over_far : (m : ℕ) (s : List ℕ) (stop : Option Stop) → IsFarthest (ValueOver (NestedMisses m)) s stop
    → IsFarthest (NestedMisses (suc m)) s stop
unfolding NestedMisses
over_far m s stop far =
    far_same {M = ValueOver (NestedMisses m)} {N = NestedMisses (suc m)} s s stop (λ place part x. x) (λ place part x. x) far

pub nested_far : (n m : ℕ) (s : List ℕ) (stop : Option Stop) → n ≡ suc m → IsFarthest (ValueOver (NestedMisses m)) s stop
    → IsFarthest (NestedMisses n) s stop
nested_far n m s stop e far = subst (λ (k : ℕ). IsFarthest (NestedMisses k) s stop) (sym e) (over_far m s stop far)

pub plain_far : (s : List ℕ) (r : Option Stop) → r ≡ Some (stop_at (length s) (only part.Value)) → ¬ (Begins ValueRule s)
    → ¬ (Begins Quote s) → IsFarthest NoValue s r
plain_far s r e none unquoted = wanted_far s part.Value r e (plain refl refl none unquoted) here
  where
    here : (place : List ℕ) (p : Part) → NoValue s place p → (place ≡ s) × (p ≡ part.Value)
    here place p (plain at is _ _) = (at, is)
    here place p (quoted _ _ _ quote) = absurd (unquoted quote)

pub quoted_far : (s : List ℕ) (r : Option Stop) → r ≡ Some (stop_at (length s) (only part.EndQuote)) → ¬ (Begins ValueRule s)
    → Begins Quote s → IsFarthest NoValue s r
quoted_far s r e none quote = wanted_far s part.EndQuote r e (quoted refl refl none quote) here
  where
    here : (place : List ℕ) (p : Part) → NoValue s place p → (place ≡ s) × (p ≡ part.EndQuote)
    here place p (plain _ _ _ unquoted) = absurd (unquoted quote)
    here place p (quoted at is _ _) = (at, is)

value_here : (s : List ℕ) → Begins ValueRule s → IsFarthest NoValue s None
value_here s begins = nothing_far s none
  where
    none : (place : List ℕ) (p : Part) → ¬ (NoValue s place p)
    none place p (plain _ _ absent _) = absent begins
    none place p (quoted _ _ absent _) = absent begins

pub absent_far : {I : Misses} (s : List ℕ) (r : Option Stop) → ¬ (Begins ValueRule s) → IsFarthest NoValue s r
    → IsFarthest (ValueOver I) s r
absent_far s r none far = first_far s r far (no_after s (λ variable. none (variable_is_value s variable)))

pub literal_far : {I : Misses} (s : List ℕ) → Begins ValueRule s → ¬ (Begins VariableRule s) → IsFarthest (ValueOver I) s None
literal_far s begins none = first_far s None (value_here s begins) (no_after s none)

pub variable_far : {I : Misses} (s rest : List ℕ) (v : Value) (r : Option Stop) → Begins ValueRule s → VariableRule s rest v
    → IsFarthest (IndexMisses I) rest r → IsFarthest (ValueOver I) s r
variable_far s rest v r begins match far =
    second_far s r (value_here s begins) (after_far (exact-variable exact-value) s rest v r match far)

pub member_far : {I : Misses} (s : List ℕ) (r : Option Stop) → ¬ (Begins OpenBracket s) → IsFarthest MemberMisses s r
    → IsFarthest (IndexMisses I) s r
member_far s r none far = first_far s r far (no_after s none)

two_bytes : (s r₁ r₂ : List ℕ) (a b : ℕ) → Byte 91 s r₁ a → Byte 46 s r₂ b → ⊥
two_bytes s r₁ r₂ a b m n =
    let e : a ∷ r₁ ≡ b ∷ r₂ = sym m.front ∙ n.front in
    let f : a ≡ b = cc in
    omega (arith, f, eqb-true a 91 m.passes, eqb-true b 46 n.passes)

-- no member begins at a bracket
no_member : (s inside white : List ℕ) → OpenBracket s inside white → IsFarthest MemberMisses s None
no_member s inside white match = no_after s (λ dot. two_bytes s _ _ _ _ match.match.before dot.match)

pub bracket_far : {I : Misses} (s inside white : List ℕ) (a b r : Option Stop) → OpenBracket s inside white → r ≡ farther a b
    → IsFarthest I inside a → IsFarthest BracketMisses inside b → IsFarthest (IndexMisses I) s r
bracket_far s inside white a b r match e f g =
    second_far s r (no_member s inside white match)
    (after_far exact-open_bracket s inside white r match (either_far inside a b r e f g))
