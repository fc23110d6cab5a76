-- How the tokens of a condition are read, test by test.
use Rattle.std.proofs.Common.{
  ◌≡◌,
  List,
  [],
  ◌∷◌,
  ◌++◌,
  Option,
  None,
  Some,
  option_map,
  Result,
  Ok,
  Err,
  refl,
  sym,
  ap,
  subst,
  ◌∙◌,
  append_assoc,
}
use Rattle.std.specs.Prelude.{IfSome, option_and_then}
use Rattle.std.proofs.lemmas.List.{append-nil}
use Rattle.liquid_error.specs.declared.place.Place.{Place}
use Rattle.liquid_error.specs.meaning.Refusal.{Refusal, ok_then}
use Rattle.liquid_plugins.specs.meaning.Expression.{ExpressionShape}
use Rattle.liquid_parser.specs.meaning.Handed.{Token, Tokens, expect_value, first_of, next, or_unexpected, unexpected}
use Rattle.liquid_parser.proofs.StepLemmas.{then_refused}
use Rattle.liquid_tags.specs.meaning.Asked.{next_as}
use Rattle.liquid_std.specs.declared.conditions.condition.ConditionShape.{ConditionShape}
use Rattle.liquid_std.specs.declared.conditions.condition.Connective.{Connective}
use Rattle.liquid_std.specs.declared.conditions.condition.Operator.{Operator}
use Rattle.liquid_std.specs.declared.conditions.condition.TestShape.{TestShape}
use Rattle.liquid_std.specs.declared.conditions.condition.TestShape.TheVariants.{Holds, Passes}
use Rattle.liquid_std.specs.meaning.conditions.ConditionsGiven.{
  after_test,
  after_value,
  condition_given,
  connective_of,
  from_second,
  from_value,
  joined_by,
  operator_of,
}
use Rattle.liquid_std.specs.steps.conditions.Tests.{operator_in, test_from, test_given}
use Rattle.liquid_parser.proofs.NextLemmas.{no_token}

abbrev tokens : Token → List Token → Tokens
tokens t more = record { following = t.following; left = more }

-- the condition that a test and the tokens after it make
abbrev pub going_on : TestShape × Tokens → Result ConditionShape Refusal
going_on g = after_test g.0 g.1.left

abbrev with_second : ExpressionShape → Operator → ExpressionShape × Tokens → Result (TestShape × Tokens) Refusal
with_second e op r = Ok (Passes e op r.0, r.1)

seconded : (e : ExpressionShape) (op : Operator) (u : Token) (us : List Token) (r : Result ExpressionShape Refusal)
    → ok_then r (λ x. after_test (Passes e op x) us) ≡ ok_then (ok_then (ok_then r (λ x. Ok (x, tokens u us))) (with_second e op)) going_on
seconded e op u us (Ok x) = refl
seconded e op u us (Err refusal) = refl

second : (e : ExpressionShape) (op : Operator) (t : Token) (more : List Token)
    → from_second e op t.following more ≡ ok_then (ok_then (next_as expect_value (tokens t more)) (with_second e op)) going_on
second e op t [] = refl
second e op t (u ∷ us) = seconded e op u us (or_unexpected u (expect_value u))

operated : (e : ExpressionShape) (place : Place) (t : Token) (more : List Token) (o : Option Operator)
    → elim o as (λ _. Result ConditionShape Refusal) [
      | None ↦ joined_by (Holds e) t (from_value t.following more)
      | Some op ↦ from_second e op t.following more
    ]
    ≡ ok_then (test_from e (record { following = place; left = t ∷ more }) (option_map (λ op. (op, tokens t more)) o)) going_on
operated e place t more None = refl
operated e place t more (Some op) = second e op t more

valued : (e : ExpressionShape) (place : Place) (ts : List Token)
    → after_value e ts ≡ ok_then (test_from e (record { following = place; left = ts })
    (operator_in (record { following = place; left = ts }))) going_on
valued e place [] = refl
valued e place (t ∷ more) = operated e place t more (operator_of t.text)

abbrev with_first : ExpressionShape × Tokens → Result (TestShape × Tokens) Refusal
with_first e = test_from e.0 e.1 (operator_in e.1)

firsted : (t : Token) (more : List Token) (r : Result ExpressionShape Refusal)
    → ok_then r (λ e. after_value e more) ≡ ok_then (ok_then (ok_then r (λ x. Ok (x, tokens t more))) with_first) going_on
firsted t more (Ok e) = valued e t.following more
firsted t more (Err refusal) = refl

from_place : (place : Place) (ts : List Token) → from_value place ts ≡ ok_then
    (test_given (record { following = place; left = ts })) going_on
from_place place [] = refl
from_place place (t ∷ more) = firsted t more (or_unexpected t (expect_value t))

-- a condition is a test, and what follows it
pub condition_is : (ts : Tokens) → condition_given ts ≡ ok_then (test_given ts) going_on
condition_is ts = from_place ts.following ts.left

-- the condition after a test that is read, and the refusal of one
pub condition_goes_on : (ts rest : Tokens) (test : TestShape) → test_given ts ≡ Ok (test, rest)
    → condition_given ts ≡ after_test test rest.left
condition_goes_on ts rest test is = condition_is ts ∙ ap (λ r. ok_then r going_on) is

pub condition_refused : (ts : Tokens) (o : Option Refusal) → IfSome o (λ r. test_given ts ≡ Err r)
    → IfSome o (λ r. condition_given ts ≡ Err r)
condition_refused ts o refused =
    subst (λ q. IfSome o (λ r. q ≡ Err r)) (sym (condition_is ts)) (then_refused o (test_given ts) going_on refused)

-- the token that is handed out joins what is after it
after_first : (last : TestShape) (ts : List Token) (given : Token × Tokens) → first_of ts ≡ Some given
    → after_test last ts ≡ joined_by last given.0 (ok_then (test_given given.1) going_on)
after_first last [] given e = cc
after_first last (t ∷ more) given e =
    ap (joined_by last t) (from_place t.following more)
    ∙ ap (λ o. elim o as (λ _. Result ConditionShape Refusal) [
      | None ↦ after_test last (t ∷ more)
      | Some g ↦ joined_by last g.0 (ok_then (test_given g.1) going_on)
    ]) e

-- a condition with tests before it
abbrev pub preceded : List (TestShape × Connective) → ConditionShape → Result ConditionShape Refusal
preceded done c = Ok (record c { joined = done ++ c.joined })

-- the tests that are read, and those that the tokens after them make
abbrev pub read_on : List (TestShape × Connective) → TestShape → List Token → Result ConditionShape Refusal
read_on done last ts = ok_then (after_test last ts) (preceded done)

moved : (done : List (TestShape × Connective)) (p : TestShape × Connective) (r : Result ConditionShape Refusal)
    → ok_then (ok_then r (λ c. Ok (record c { joined = p ∷ c.joined }))) (preceded done)
    ≡ ok_then r (λ c. Ok (record c { joined = (done ++ p ∷ []) ++ c.joined }))
moved done p (Ok c) = ap (λ ps. Ok (record c { joined = ps })) (sym (append_assoc done (p ∷ []) c.joined))
moved done p (Err refusal) = refl

abbrev joined_with : TestShape × Connective → ConditionShape → Result ConditionShape Refusal
joined_with p c = Ok (record c { joined = p ∷ c.joined })

abbrev joined_on : TestShape → Result ConditionShape Refusal → Connective → Result ConditionShape Refusal
joined_on last rest connective = ok_then rest (joined_with (last, connective))

-- one test more is read
pub test_read : (done after : List (TestShape × Connective)) (last test : TestShape) (ts : List Token) (given : Token × Tokens)
    (connective : Connective) (rest : Tokens) (meant : Result ConditionShape Refusal)
    → meant ≡ read_on done last ts → first_of ts ≡ Some given → or_unexpected given.0 (connective_of given.0.text) ≡ Ok connective
    → test_given given.1 ≡ Ok (test, rest)
    → after ≡ done ++ (last, connective) ∷ [] → meant ≡ read_on after test rest.left
test_read done after last test ts given connective rest meant so_far first joins is pushed =
    so_far
    ∙ ap (λ r. ok_then r (preceded done))
    (after_first last ts given first
    ∙ ap (λ r. ok_then r (joined_on last (ok_then (test_given given.1) going_on))) joins
    ∙ ap (λ r. joined_on last (ok_then r going_on) connective) is)
    ∙ moved done (last, connective) (after_test test rest.left)
    ∙ ap (λ ps. read_on ps test rest.left) (sym pushed)

-- the refusal of a token that joins nothing
pub connective_refused : (done : List (TestShape × Connective)) (last : TestShape) (ts : List Token) (given : Token × Tokens)
    (o : Option Refusal) (meant : Result ConditionShape Refusal)
    → meant ≡ read_on done last ts → first_of ts ≡ Some given → IfSome o (λ r. or_unexpected given.0 (connective_of given.0.text) ≡ Err r)
    → IfSome o (λ r. meant ≡ Err r)
connective_refused done last ts given o meant so_far first refused =
    subst (λ q. IfSome o (λ r. q ≡ Err r)) (sym (so_far ∙ ap (λ r. ok_then r (preceded done)) (after_first last ts given first)))
    (then_refused o (joined_by last given.0 (ok_then (test_given given.1) going_on)) (preceded done)
    (then_refused o (or_unexpected given.0 (connective_of given.0.text)) (joined_on last (ok_then (test_given given.1) going_on)) refused))

-- the refusal of what follows one that joins
pub test_refused : (done : List (TestShape × Connective)) (last : TestShape) (ts : List Token) (given : Token × Tokens)
    (connective : Connective) (o : Option Refusal) (meant : Result ConditionShape Refusal)
    → meant ≡ read_on done last ts → first_of ts ≡ Some given → or_unexpected given.0 (connective_of given.0.text) ≡ Ok connective
    → IfSome o (λ r. test_given given.1 ≡ Err r) → IfSome o (λ r. meant ≡ Err r)
test_refused done last ts given connective o meant so_far first joins refused =
    subst (λ q. IfSome o (λ r. q ≡ Err r))
    (sym (so_far ∙ ap (λ r. ok_then r (preceded done))
    (after_first last ts given first ∙ ap (λ r. ok_then r (joined_on last (ok_then (test_given given.1) going_on))) joins)))
    (then_refused o (joined_on last (ok_then (test_given given.1) going_on) connective) (preceded done)
    (then_refused o (ok_then (test_given given.1) going_on) (joined_with (last, connective))
    (then_refused o (test_given given.1) going_on refused)))

-- where no token is left the tests that are read are all
pub all_read : (done : List (TestShape × Connective)) (last : TestShape) (ts : List Token) (meant : Result ConditionShape Refusal)
    → meant ≡ read_on done last ts → first_of ts ≡ None → meant ≡ Ok (record { joined = done; last = last })
all_read done last ts meant so_far none =
    so_far ∙ ap (read_on done last) (no_token ts none) ∙ ap (λ ps. Ok (record { joined = ps; last = last })) (append-nil done)

-- the refusal of a token that is not what was expected
pub unexpected_told : {A : Type 0} (t : Token) (o : Option A) (e : Option Refusal) → o ≡ None → IfSome e (λ r. r ≡ unexpected t)
    → IfSome e (λ r. or_unexpected t o ≡ Err r)
unexpected_told t o None none told = told
unexpected_told t o (Some r) none told = ap (or_unexpected t) none ∙ ap (λ q. Err q) (sym told)

-- the operator that the next token is
pub operator_taken : (ts : Tokens) (given : Token × Tokens) (op : Operator) → next ts ≡ Some given → operator_of given.0.text ≡ Some op
    → operator_in ts ≡ Some (op, given.1)
operator_taken ts given op is fits =
    ap (option_and_then (λ g. option_map (λ o. (o, g.1)) (operator_of g.0.text))) is ∙ ap (option_map (λ o. (o, given.1))) fits

pub no_operator : (ts : Tokens) (given : Token × Tokens) → next ts ≡ Some given → operator_of given.0.text ≡ None → operator_in ts ≡ None
no_operator ts given is fails =
    ap (option_and_then (λ g. option_map (λ o. (o, g.1)) (operator_of g.0.text))) is ∙ ap (option_map (λ o. (o, given.1))) fails

-- a test of two values, and one of a value
pub passes_read : (ts first second rest : Tokens) (e r : ExpressionShape) (op : Operator) → next_as expect_value ts ≡ Ok (e, first)
    → operator_in first ≡ Some (op, second) → next_as expect_value second ≡ Ok (r, rest)
    → test_given ts ≡ Ok (Passes e op r, rest)
passes_read ts first second rest e r op left is right =
    ap (λ x. ok_then x with_first) left ∙ ap (test_from e first) is ∙ ap (λ x. ok_then x (with_second e op)) right

pub holds_read : (ts first : Tokens) (e : ExpressionShape) → next_as expect_value ts ≡ Ok (e, first) → operator_in first ≡ None
    → test_given ts ≡ Ok (Holds e, first)
holds_read ts first e left none = ap (λ x. ok_then x with_first) left ∙ ap (test_from e first) none
