-- Variables that are whole texts.
use Rattle.std.proofs.Common.{
  ◌≡◌,
  ℕ,
  List,
  [],
  ◌∷◌,
  Option,
  Some,
  None,
  Ok,
  refl,
  sym,
  ap,
  ◌∙◌,
  subst,
  true,
  false,
  ◌==◌,
  length,
  arith,
  eqb-true,
}
use Rattle.liquid_error.specs.meaning.Refusal.{ok_then}
use Rattle.liquid_grammar.specs.meaning.Faults.{Fault, fault_within, value_fault, indexes_fault}
use Rattle.liquid_grammar.specs.meaning.Grammar.{Identifier}
use Rattle.liquid_grammar.specs.meaning.Matches.{Single}
use Rattle.liquid_grammar.specs.meaning.Rules.{Repeated}
use Rattle.liquid_grammar.specs.meaning.Values.{Value, Index, IndexRule, VariableRule, gather}
use Rattle.liquid_grammar.proofs.Exact.{same_match}
use Rattle.liquid_grammar.proofs.TokenExact.{exact-variable, exact-value}
use Rattle.liquid_scalar.specs.meaning.Scalar.{text}
use Rattle.liquid_plugins.specs.meaning.Expression.{ExpressionShape, variable}
use Rattle.liquid_parser.specs.meaning.Handed.{expression_meant, indexes_meant}
use Rattle.liquid_parser.specs.meaning.Reading.{checked}
use Rattle.liquid_parser.specs.meaning.Variables.{variable_read}

pub one_variable : Single VariableRule
one_variable s r₁ r₂ a₁ a₂ m₁ m₂ = same_match (exact-variable exact-value) s r₁ r₂ a₁ a₂ m₁ m₂

pub checked_none : (source : List ℕ) (o : Option Fault) → checked source o ≡ Ok tt → o ≡ None
checked_none source None e = refl
checked_none source (Some fault) e = cc

-- a variable by its name and the indexes after it
pub record IsWhole (rest name : List ℕ) (v : Value) : Type 0 where
  pub indexes : List Index
  pub match : Repeated IndexRule rest [] indexes
  pub fault : value_fault v ≡ indexes_fault 0 (gather indexes)
  pub meant : expression_meant v ≡ variable (text name) (indexes_meant (gather indexes))

pub whole_parts : Single Identifier → (s r name : List ℕ) (v : Value) → VariableRule s [] v → Identifier s r name → IsWhole r name v
whole_parts one s r name v m n =
    let then = m.match.match in
    let same = one s then.middle r m.from.what.0 name then.before.match n in
    record {
      indexes = m.from.what.1;
      match = subst (λ (p : List ℕ × List ℕ). Repeated IndexRule p.1 [] m.from.what.1) same then.after;
      fault = ap (fault_within 0) m.is;
      meant = ap expression_meant m.is ∙ ap (λ (p : List ℕ × List ℕ). variable (text p.0) (indexes_meant (gather m.from.what.1))) same;
    }

pub whole_read : (source : List ℕ) (v : Value) (fault : Option Fault) (e : ExpressionShape) → fault ≡ value_fault v
    → checked source fault ≡ Ok tt → expression_meant v ≡ e → variable_read source v ≡ Ok e
whole_read source v fault e is fine meant =
    ap (λ c. ok_then (checked source c) (λ _. Ok (expression_meant v))) (sym is)
    ∙ (ap (λ c. ok_then c (λ _. Ok (expression_meant v))) fine ∙ ap (λ x. Ok x) meant)

pub no_bytes : (xs : List ℕ) → true ≡ (length xs == 0) → xs ≡ []
no_bytes [] e = refl
no_bytes (x ∷ xs) e = let none : length (x ∷ xs) ≡ 0 = eqb-true (length (x ∷ xs)) 0 (sym e) in absurd (omega (arith, none))

pub some_bytes : (xs : List ℕ) → false ≡ (length xs == 0) → xs ≡ [] → ⊥
some_bytes xs e is = cc (e ∙ ap (λ ys. length ys == 0) is)
