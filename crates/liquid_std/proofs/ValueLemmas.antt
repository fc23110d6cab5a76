-- How a list of values is read, value by value.
use Rattle.std.proofs.Common.{
  ◌≡◌,
  ℕ,
  List,
  [],
  ◌∷◌,
  ◌++◌,
  Option,
  None,
  Some,
  Result,
  Ok,
  Err,
  true,
  false,
  refl,
  sym,
  ap,
  subst,
  ◌∙◌,
  append_assoc,
}
use Rattle.std.specs.Prelude.{IfSome, bytes_eq, cond}
use Rattle.std.specs.List.{list_any}
use Rattle.std.proofs.lemmas.List.{append-nil}
use Rattle.liquid_error.specs.declared.place.Place.{Place}
use Rattle.liquid_error.specs.meaning.Refusal.{Refusal, ok_then}
use Rattle.liquid_plugins.specs.meaning.Expression.{ExpressionShape}
use Rattle.liquid_parser.specs.meaning.Handed.{Token, Tokens, expect_value, first_of, or_unexpected, unexpected}
use Rattle.liquid_parser.proofs.StepLemmas.{then_refused}
use Rattle.liquid_tags.specs.meaning.Asked.{next_as}
use Rattle.liquid_std.specs.meaning.conditions.Values.{expect_one_of, values_after, values_from, values_given}
use Rattle.liquid_parser.proofs.NextLemmas.{no_token}

module _ (separators : List (List ℕ)) where
  abbrev going_on : ExpressionShape × Tokens → Result (List ExpressionShape) Refusal
  going_on g = ok_then (values_after separators g.1.left) (λ es. Ok (g.0 ∷ es))

  valued : (t : Token) (more : List Token) (r : Result ExpressionShape Refusal)
      → ok_then r (λ e. ok_then (values_after separators more) (λ es. Ok (e ∷ es))) ≡ ok_then
      (ok_then r (λ e. Ok (e, record { following = t.following; left = more }))) going_on
  valued t more (Ok e) = refl
  valued t more (Err refusal) = refl

  from_place : (place : Place) (ts : List Token) → values_from separators place ts ≡ ok_then
      (next_as expect_value (record { following = place; left = ts })) going_on
  from_place place [] = refl
  from_place place (t ∷ more) = valued t more (or_unexpected t (expect_value t))

  -- the values that are read, and those that the tokens after them make
  abbrev pub read_on : List ExpressionShape → List Token → Result (List ExpressionShape) Refusal
  read_on done ts = ok_then (values_after separators ts) (λ es. Ok (done ++ es))

  -- the first value is read
  pub first_value : (ts rest : Tokens) (e : ExpressionShape) (done : List ExpressionShape) → next_as expect_value ts ≡ Ok (e, rest)
      → done ≡ e ∷ [] → values_given separators ts ≡ read_on done rest.left
  first_value ts rest e done is pushed =
      from_place ts.following ts.left ∙ ap (λ r. ok_then r going_on) is ∙ ap (λ es. read_on es rest.left) (sym pushed)

  pub first_refused : (ts : Tokens) (o : Option Refusal) → IfSome o (λ r. next_as expect_value ts ≡ Err r)
      → IfSome o (λ r. values_given separators ts ≡ Err r)
  first_refused ts o refused =
      subst (λ q. IfSome o (λ r. q ≡ Err r)) (sym (from_place ts.following ts.left))
      (then_refused o (next_as expect_value ts) going_on refused)

  after_first : (ts : List Token) (given : Token × Tokens) → first_of ts ≡ Some given
      → values_after separators ts ≡ ok_then (or_unexpected given.0 (expect_one_of separators given.0))
      (λ u. ok_then (next_as expect_value given.1) going_on)
  after_first [] given e = cc
  after_first (t ∷ more) given e =
      ap (λ x. ok_then (or_unexpected t (expect_one_of separators t)) (λ u. x)) (from_place t.following more)
      ∙ ap (λ o. elim o as (λ _. Result (List ExpressionShape) Refusal) [
        | None ↦ values_after separators (t ∷ more)
        | Some g ↦ ok_then (or_unexpected g.0 (expect_one_of separators g.0)) (λ u. ok_then (next_as expect_value g.1) going_on)
      ]) e

  moved : (done : List ExpressionShape) (e : ExpressionShape) (r : Result (List ExpressionShape) Refusal)
      → ok_then (ok_then r (λ es. Ok (e ∷ es))) (λ es. Ok (done ++ es)) ≡ ok_then r (λ es. Ok ((done ++ e ∷ []) ++ es))
  moved done e (Ok es) = ap (λ xs. Ok xs) (sym (append_assoc done (e ∷ []) es))
  moved done e (Err refusal) = refl

  -- one value more is read
  pub value_read : (done after : List ExpressionShape) (ts : List Token) (given : Token × Tokens) (e : ExpressionShape) (rest : Tokens)
      (u : Unit {0}) (meant : Result (List ExpressionShape) Refusal)
      → meant ≡ read_on done ts → first_of ts ≡ Some given → or_unexpected given.0 (expect_one_of separators given.0) ≡ Ok u
      → next_as expect_value given.1 ≡ Ok (e, rest) → after ≡ done ++ e ∷ []
      → meant ≡ read_on after rest.left
  value_read done after ts given e rest u meant so_far first separates is pushed =
      so_far
      ∙ ap (λ r. ok_then r (λ es. Ok (done ++ es)))
      (after_first ts given first ∙ ap (λ r. ok_then r (λ w. ok_then (next_as expect_value given.1) going_on)) separates
      ∙ ap (λ r. ok_then r going_on) is)
      ∙ moved done e (values_after separators rest.left)
      ∙ ap (λ es. read_on es rest.left) (sym pushed)

  -- the refusal of a token that is no separator
  pub separator_refused : (done : List ExpressionShape) (ts : List Token) (given : Token × Tokens) (o : Option Refusal)
      (meant : Result (List ExpressionShape) Refusal)
      → meant ≡ read_on done ts → first_of ts ≡ Some given → IfSome o
      (λ r. or_unexpected given.0 (expect_one_of separators given.0) ≡ Err r) → IfSome o (λ r. meant ≡ Err r)
  separator_refused done ts given o meant so_far first refused =
      subst (λ q. IfSome o (λ r. q ≡ Err r)) (sym (so_far ∙ ap (λ r. ok_then r (λ es. Ok (done ++ es))) (after_first ts given first)))
      (then_refused o (ok_then (or_unexpected given.0 (expect_one_of separators given.0))
      (λ u. ok_then (next_as expect_value given.1) going_on)) (λ es. Ok (done ++ es))
      (then_refused o (or_unexpected given.0 (expect_one_of separators given.0))
      (λ u. ok_then (next_as expect_value given.1) going_on) refused))

  -- the refusal of what follows a separator
  pub value_refused : (done : List ExpressionShape) (ts : List Token) (given : Token × Tokens) (u : Unit {0}) (o : Option Refusal)
      (meant : Result (List ExpressionShape) Refusal)
      → meant ≡ read_on done ts → first_of ts ≡ Some given → or_unexpected given.0 (expect_one_of separators given.0) ≡ Ok u
      → IfSome o (λ r. next_as expect_value given.1 ≡ Err r) → IfSome o (λ r. meant ≡ Err r)
  value_refused done ts given u o meant so_far first separates refused =
      subst (λ q. IfSome o (λ r. q ≡ Err r))
      (sym (so_far ∙ ap (λ r. ok_then r (λ es. Ok (done ++ es))) (after_first ts given first
      ∙ ap (λ r. ok_then r (λ w. ok_then (next_as expect_value given.1) going_on)) separates)))
      (then_refused o (ok_then (next_as expect_value given.1) going_on) (λ es. Ok (done ++ es))
      (then_refused o (next_as expect_value given.1) going_on refused))

  -- where no token is left the values that are read are all
  pub all_read : (done : List ExpressionShape) (ts : List Token) (meant : Result (List ExpressionShape) Refusal) → meant ≡ read_on done ts
      → first_of ts ≡ None → meant ≡ Ok done
  all_read done ts meant so_far none = so_far ∙ ap (read_on done) (no_token ts none) ∙ ap (λ es. Ok es) (append-nil done)

  -- whether a token is one of the texts
  pub one_of_taken : (t : Token) (text : List ℕ) → text ≡ t.text → list_any (bytes_eq text) separators ≡ true
      → or_unexpected t (expect_one_of separators t) ≡ Ok tt
  one_of_taken t text same is =
      ap (λ b. or_unexpected t (cond b (Some tt) None)) (ap (λ x. list_any (bytes_eq x) separators) (sym same) ∙ is)

  pub one_of_refused : (t : Token) (text : List ℕ) (e : Option Refusal) → text ≡ t.text → list_any (bytes_eq text) separators ≡ false
      → IfSome e (λ r. r ≡ unexpected t) → IfSome e (λ r. or_unexpected t (expect_one_of separators t) ≡ Err r)
  one_of_refused t text None same is told = told
  one_of_refused t text (Some r) same is told =
      ap (λ b. or_unexpected t (cond b (Some tt) None)) (ap (λ x. list_any (bytes_eq x) separators) (sym same) ∙ is)
      ∙ ap (λ q. Err q) (sym told)
