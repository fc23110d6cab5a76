-- How the pairs of an inclusion are read, pair by pair.
use Rattle.std.proofs.Common.{◌≡◌, ℕ, List, [], ◌∷◌, ◌++◌, Option, None, Some, Result, Ok, Err}
use Rattle.std.proofs.Common.{refl, sym, ap, subst, ◌∙◌}
use Rattle.std.specs.Prelude.{IfSome}
use Rattle.std.proofs.lemmas.List.{append-nil}
use Rattle.liquid_error.specs.declared.place.Place.{Place}
use Rattle.liquid_error.specs.meaning.Refusal.{Refusal, ok_then}
use Rattle.liquid_parser.specs.meaning.Handed.{Token, Tokens, expect_identifier, expect_value, first_of, next, or_unexpected}
use Rattle.liquid_parser.proofs.StepLemmas.{then_refused}
use Rattle.liquid_plugins.specs.meaning.Expression.{ExpressionShape}
use Rattle.liquid_tags.specs.meaning.Asked.{next_as}
use Rattle.liquid_tags.specs.meaning.Partials.{Pair}
use Rattle.jekyll_tags.specs.meaning.Given.{expect_sign, from_sign, from_value, pair_given, pairs_from}
use Rattle.liquid_tags.proofs.PairLemmas.{joined}

abbrev following : Token → List Token → Tokens
following t more = record { following = t.following; left = more }

abbrev with_name : List ℕ → ExpressionShape × Tokens → Result (Pair × Tokens) Refusal
with_name name value = Ok ((name, value.0), value.1)

abbrev after_sign : List ℕ → Unit {0} × Tokens → Result (Pair × Tokens) Refusal
after_sign name sign = ok_then (next_as expect_value sign.1) (with_name name)

abbrev after_name : Tokens → List ℕ → Result (Pair × Tokens) Refusal
after_name ts name = ok_then (next_as expect_sign ts) (after_sign name)

-- a pair, and the pairs that the tokens after it make
abbrev pub going_on : Pair × Tokens → Result (List Pair) Refusal
going_on g = ok_then (pairs_from g.1.left) (λ qs. Ok (g.0 ∷ qs))

valued : (name : List ℕ) (t : Token) (more : List Token) (r : Result ExpressionShape Refusal)
    → ok_then r (λ e. ok_then (pairs_from more) (λ pairs. Ok ((name, e) ∷ pairs)))
    ≡ ok_then (ok_then (ok_then r (λ e. Ok (e, following t more))) (with_name name)) going_on
valued name t more (Ok e) = refl
valued name t more (Err refusal) = refl

value_on : (name : List ℕ) (place : Place) (ts : List Token)
    → from_value name place ts
    ≡ ok_then (ok_then (next_as expect_value (record { following = place; left = ts })) (with_name name)) going_on
value_on name place [] = refl
value_on name place (t ∷ more) = valued name t more (or_unexpected t (expect_value t))

signed : (name : List ℕ) (t : Token) (more : List Token) (r : Result (Unit {0}) Refusal)
    → ok_then r (λ u. from_value name t.following more)
    ≡ ok_then (ok_then (ok_then {B = Unit {0} × Tokens} r (λ u. Ok (u, following t more))) (after_sign name)) going_on
signed name t more (Ok u) = value_on name t.following more
signed name t more (Err refusal) = refl

sign_on : (name : List ℕ) (place : Place) (ts : List Token)
    → from_sign name place ts ≡ ok_then (after_name (record { following = place; left = ts }) name) going_on
sign_on name place [] = refl
sign_on name place (t ∷ more) = signed name t more (or_unexpected t (expect_sign t))

named : (t : Token) (more : List Token) (r : Result (List ℕ) Refusal)
    → ok_then r (λ name. from_sign name t.following more) ≡ ok_then (ok_then r (after_name (following t more))) going_on
named t more (Ok name) = sign_on name t.following more
named t more (Err refusal) = refl

abbrev from_given : Token × Tokens → Result (List Pair) Refusal
from_given given = ok_then (pair_given given.0 given.1) going_on

-- what the first token of a pair, and those after it, make
at_first : (ts : List Token) (given : Token × Tokens) → first_of ts ≡ Some given → pairs_from ts ≡ from_given given
at_first [] given e = cc
at_first (t ∷ more) given e =
    named t more (or_unexpected t (expect_identifier t))
    ∙ ap (λ o. elim o as (λ _. Result (List Pair) Refusal) [ None ↦ pairs_from (t ∷ more) | Some g ↦ from_given g ]) e

none_left : (ts : List Token) → first_of ts ≡ None → pairs_from ts ≡ Ok []
none_left [] e = refl
none_left (t ∷ more) e = cc

-- the pairs that were read, and those that the tokens after them make
abbrev pub read_on : List Pair → List Token → Result (List Pair) Refusal
read_on done ts = ok_then (pairs_from ts) (λ qs. Ok (done ++ qs))

pub nothing_read : (r : Result (List Pair) Refusal) → r ≡ ok_then r (λ qs. Ok ([] ++ qs))
nothing_read (Ok qs) = refl
nothing_read (Err refusal) = refl

module _ (done : List Pair) (ts : Tokens) (meant : Result (List Pair) Refusal) (so_far : meant ≡ read_on done ts.left) where
  module _ (given : Token × Tokens) (first : next ts ≡ Some given) where
    paired : meant ≡ ok_then (from_given given) (λ qs. Ok (done ++ qs))
    paired = so_far ∙ ap (λ r. ok_then r (λ qs. Ok (done ++ qs))) (at_first ts.left given first)

    -- one pair more is read, or refused
    pub pair_read : (after : List Pair) (pair : Pair) (rest : Tokens) → pair_given given.0 given.1 ≡ Ok (pair, rest)
        → after ≡ done ++ pair ∷ [] → meant ≡ read_on after rest.left
    pair_read after pair rest read pushed =
        paired ∙ ap (λ r. ok_then (ok_then r going_on) (λ qs. Ok (done ++ qs))) read
        ∙ joined done pair (pairs_from rest.left)
        ∙ ap (λ ps. read_on ps rest.left) (sym pushed)

    pub pair_refused : (o : Option Refusal) → IfSome o (λ r. pair_given given.0 given.1 ≡ Err r) → IfSome o (λ r. meant ≡ Err r)
    pair_refused o refused =
        subst (λ q. IfSome o (λ r. q ≡ Err r)) (sym paired)
        (then_refused o (from_given given) (λ qs. Ok (done ++ qs)) (then_refused o (pair_given given.0 given.1) going_on refused))

  -- if no pair comes, the pairs that were read are all
  pub all_read : next ts ≡ None → meant ≡ Ok done
  all_read none =
      so_far ∙ ap (λ r. ok_then r (λ qs. Ok (done ++ qs))) (none_left ts.left none) ∙ ap (λ ps. Ok ps) (append-nil done)

-- a name, `=` and a value are a pair
module _ (t : Token) (ts : Tokens) where
  abbrev after_identifier : Result (List ℕ) Refusal → Result (Pair × Tokens) Refusal
  after_identifier r = ok_then r (after_name ts)

  pub pair_taken : (name text : List ℕ) (signed : Tokens) (u : Unit {0}) (value : ExpressionShape × Tokens)
      → or_unexpected t (expect_identifier t) ≡ Ok name → next_as expect_sign ts ≡ Ok (u, signed)
      → next_as expect_value signed ≡ Ok value → text ≡ name
      → pair_given t ts ≡ Ok ((text, value.0), value.1)
  pair_taken name text signed u value is_name is_sign is_value same =
      ap after_identifier is_name ∙ ap (λ r. ok_then r (after_sign name)) is_sign ∙ ap (λ r. ok_then r (with_name name)) is_value
      ∙ ap (λ n. with_name n value) (sym same)

  pub name_refused : (o : Option Refusal) → IfSome o (λ r. or_unexpected t (expect_identifier t) ≡ Err r)
      → IfSome o (λ r. pair_given t ts ≡ Err r)
  name_refused o refused = then_refused o (or_unexpected t (expect_identifier t)) (after_name ts) refused

  pub sign_refused : (name : List ℕ) (o : Option Refusal) → or_unexpected t (expect_identifier t) ≡ Ok name
      → IfSome o (λ r. next_as expect_sign ts ≡ Err r) → IfSome o (λ r. pair_given t ts ≡ Err r)
  sign_refused name o is_name refused =
      subst (λ q. IfSome o (λ r. q ≡ Err r)) (sym (ap after_identifier is_name))
      (then_refused o (next_as expect_sign ts) (after_sign name) refused)

  pub value_refused : (name : List ℕ) (signed : Tokens) (u : Unit {0}) (o : Option Refusal)
      → or_unexpected t (expect_identifier t) ≡ Ok name → next_as expect_sign ts ≡ Ok (u, signed)
      → IfSome o (λ r. next_as expect_value signed ≡ Err r) → IfSome o (λ r. pair_given t ts ≡ Err r)
  value_refused name signed u o is_name is_sign refused =
      subst (λ q. IfSome o (λ r. q ≡ Err r)) (sym (ap after_identifier is_name ∙ ap (λ r. ok_then r (after_sign name)) is_sign))
      (then_refused o (next_as expect_value signed) (with_name name) refused)
