-- How the arguments of a tag are read, argument by argument.
use Rattle.std.proofs.Common.{◌≡◌, ℕ, Bool, true, false, cond, List, [], ◌∷◌, ◌++◌, Option, None, Some, Result, Ok, Err}
use Rattle.std.proofs.Common.{refl, sym, ap, subst, ◌∙◌, append_assoc}
use Rattle.std.specs.Prelude.{IfSome, ◌&&◌, not, bytes_eq, codes}
use Rattle.std.proofs.lemmas.List.{append-nil}
use Rattle.liquid_error.specs.declared.place.Place.{Place}
use Rattle.liquid_error.specs.meaning.Refusal.{Refusal, located, ok_then}
use Rattle.liquid_plugins.specs.meaning.ArgumentsOf.{Arguments}
use Rattle.liquid_plugins.specs.meaning.Expression.{ExpressionShape}
use Rattle.liquid_parser.specs.meaning.Cursors.{next_as}
use Rattle.liquid_parser.specs.meaning.Handed.{Token, Tokens, expect_identifier, expect_next, expect_value, first_of, no_arguments}
use Rattle.liquid_parser.specs.meaning.Handed.{or_unexpected}
use Rattle.liquid_parser.proofs.StepLemmas.{then_refused}
use Rattle.liquid_extend.specs.meaning.Arguments.{Argument, positional, named, argument_due, argument_from, arguments_from, before}
use Rattle.liquid_extend.specs.meaning.Arguments.{expect_colon, is_colon, is_comma, is_positional, token_expected, value_due, with_argument}
use Rattle.liquid_extend.specs.steps.Reading.{added, argument_given, first_token, is_value_next, pair_given, value_given}
use Rattle.liquid_parser.proofs.NextLemmas.{no_token}

abbrev following : Token → List Token → Tokens
following t more = record { following = t.following; left = more }

-- a token that is a comma, and one that is none
abbrev pub first_by : Token → Tokens → Bool → Result (Token × Tokens) Refusal
first_by t ts b = cond b (expect_next token_expected ts) (Ok (t, ts))

pub first_found : (t : Token) (ts : Tokens) (text : List ℕ) (b : Bool) → text ≡ t.text → bytes_eq text (codes ",") ≡ b
    → first_token t ts ≡ first_by t ts b
first_found t ts text b same is = ap (first_by t ts) (ap (λ x. bytes_eq x (codes ",")) (sym same) ∙ is)

-- the next token decides whether an argument is a value
pub next_decides : (takes_values : Bool) (ts : List Token) (given : Token × Tokens) → first_of ts ≡ Some given
    → is_value_next takes_values ts ≡ takes_values && not (is_colon given.0)
next_decides takes_values [] given e = cc
next_decides takes_values (t ∷ more) given e =
    ap (λ o. elim o [ None ↦ is_value_next takes_values (t ∷ more) | Some g ↦ takes_values && not (is_colon g.0) ]) e

abbrev positional_on : Tokens → ExpressionShape → Result (Argument × Tokens) Refusal
positional_on ts e = Ok (positional e, ts)

-- a value is read, or refused
pub value_taken : (t : Token) (ts : Tokens) (e : ExpressionShape) → or_unexpected t (expect_value t) ≡ Ok e
    → value_given t ts ≡ Ok (positional e, ts)
value_taken t ts e is = ap (λ r. ok_then r (positional_on ts)) is

pub value_refused : (t : Token) (ts : Tokens) (o : Option Refusal) → IfSome o (λ r. or_unexpected t (expect_value t) ≡ Err r)
    → IfSome o (λ r. value_given t ts ≡ Err r)
value_refused t ts o refused = then_refused o (or_unexpected t (expect_value t)) (positional_on ts) refused

abbrev with_name : List ℕ → ExpressionShape × Tokens → Result (Argument × Tokens) Refusal
with_name name value = Ok (named name value.0, value.1)

abbrev after_sign : List ℕ → Unit {0} × Tokens → Result (Argument × Tokens) Refusal
after_sign name sign = ok_then (next_as token_expected expect_value sign.1) (with_name name)

abbrev after_name : Tokens → List ℕ → Result (Argument × Tokens) Refusal
after_name ts name = ok_then (next_as token_expected expect_colon ts) (after_sign name)

module _ (t : Token) (ts : Tokens) where
  -- a pair is read
  pub pair_taken : (name : List ℕ) (u : Unit {0}) (one two : Tokens) (e : ExpressionShape)
      → or_unexpected t (expect_identifier t) ≡ Ok name → next_as token_expected expect_colon ts ≡ Ok (u, one)
      → next_as token_expected expect_value one ≡ Ok (e, two) → pair_given t ts ≡ Ok (named name e, two)
  pair_taken name u one two e is_name is_sign is_value =
      ap (λ r. ok_then r (after_name ts)) is_name ∙ ap (λ r. ok_then r (after_sign name)) is_sign
      ∙ ap (λ r. ok_then r (with_name name)) is_value

  -- the name, the colon or the value is refused
  pub name_refused : (o : Option Refusal) → IfSome o (λ r. or_unexpected t (expect_identifier t) ≡ Err r)
      → IfSome o (λ r. pair_given t ts ≡ Err r)
  name_refused o refused = then_refused o (or_unexpected t (expect_identifier t)) (after_name ts) refused

  pub sign_refused : (name : List ℕ) (o : Option Refusal) → or_unexpected t (expect_identifier t) ≡ Ok name
      → IfSome o (λ r. next_as token_expected expect_colon ts ≡ Err r) → IfSome o (λ r. pair_given t ts ≡ Err r)
  sign_refused name None is_name refused = refused
  sign_refused name (Some r) is_name refused =
      ap (λ r. ok_then r (after_name ts)) is_name ∙ ap (λ r. ok_then r (after_sign name)) refused

  pub pair_value_refused : (name : List ℕ) (u : Unit {0}) (one : Tokens) (o : Option Refusal)
      → or_unexpected t (expect_identifier t) ≡ Ok name → next_as token_expected expect_colon ts ≡ Ok (u, one)
      → IfSome o (λ r. next_as token_expected expect_value one ≡ Err r) → IfSome o (λ r. pair_given t ts ≡ Err r)
  pair_value_refused name u one None is_name is_sign refused = refused
  pair_value_refused name u one (Some r) is_name is_sign refused =
      ap (λ r. ok_then r (after_name ts)) is_name ∙ ap (λ r. ok_then r (after_sign name)) is_sign
      ∙ ap (λ r. ok_then r (with_name name)) refused

module _ (takes_values : Bool) where
  -- an argument that is read, before those that the tokens after it make
  abbrev pub going_on : Argument × Tokens → Result Arguments Refusal
  going_on g = before g.0 (arguments_from takes_values g.1.left)

  valued : (t : Token) (ts : Tokens) (r : Result ExpressionShape Refusal)
      → ok_then r (λ e. before (positional e) (arguments_from takes_values ts.left))
      ≡ ok_then (ok_then r (λ e. Ok (positional e, ts))) going_on
  valued t ts (Ok e) = refl
  valued t ts (Err refusal) = refl

  name_valued : (name : List ℕ) (e : Token) (ts : List Token) (r : Result ExpressionShape Refusal)
      → ok_then r (λ value. before (named name value) (arguments_from takes_values ts))
      ≡ ok_then (ok_then (ok_then {B = ExpressionShape × Tokens} r (λ x. Ok (x, following e ts))) (with_name name)) going_on
  name_valued name e ts (Ok value) = refl
  name_valued name e ts (Err refusal) = refl

  value_after : (name : List ℕ) (c : Token) (ts : List Token)
      → value_due takes_values name c.following ts
      ≡ ok_then (ok_then (next_as token_expected expect_value (following c ts)) (with_name name)) going_on
  value_after name c [] = refl
  value_after name c (e ∷ ts) = name_valued name e ts (or_unexpected e (expect_value e))

  signed : (name : List ℕ) (c : Token) (ts : List Token) (r : Result (Unit {0}) Refusal)
      → ok_then r (λ u. value_due takes_values name c.following ts)
      ≡ ok_then (ok_then (ok_then {B = Unit {0} × Tokens} r (λ u. Ok (u, following c ts))) (after_sign name)) going_on
  signed name c ts (Ok u) = value_after name c ts
  signed name c ts (Err refusal) = refl

  name_signed : (t c : Token) (ts : List Token) (r : Result (List ℕ) Refusal)
      → ok_then r (λ name. ok_then (or_unexpected c (expect_colon c)) (λ u. value_due takes_values name c.following ts))
      ≡ ok_then (ok_then r (after_name (following t (c ∷ ts)))) going_on
  name_signed t c ts (Ok name) = signed name c ts (or_unexpected c (expect_colon c))
  name_signed t c ts (Err refusal) = refl

  abbrev next_missing : Token → Result Arguments Refusal
  next_missing t = Err (located token_expected t.following)

  name_last : (t : Token) (r : Result (List ℕ) Refusal)
      → ok_then r (λ name. next_missing t) ≡ ok_then (ok_then r (after_name (following t []))) going_on
  name_last t (Ok name) = refl
  name_last t (Err refusal) = refl

  only_token : (b : Bool) (t : Token)
      → cond b (ok_then (or_unexpected t (expect_value t)) (λ e. before (positional e) (arguments_from takes_values [])))
      (ok_then (or_unexpected t (expect_identifier t)) (λ name. next_missing t))
      ≡ ok_then (cond b (value_given t (following t [])) (pair_given t (following t []))) going_on
  only_token true t = valued t (following t []) (or_unexpected t (expect_value t))
  only_token false t = name_last t (or_unexpected t (expect_identifier t))

  by_second : (b : Bool) (t c : Token) (ts : List Token)
      → cond b (ok_then (or_unexpected t (expect_value t)) (λ e. before (positional e) (arguments_from takes_values (c ∷ ts))))
      (ok_then (or_unexpected t (expect_identifier t)) (λ name. ok_then (or_unexpected c (expect_colon c)) (λ u.
      value_due takes_values name c.following ts)))
      ≡ ok_then (cond b (value_given t (following t (c ∷ ts))) (pair_given t (following t (c ∷ ts)))) going_on
  by_second true t c ts = valued t (following t (c ∷ ts)) (or_unexpected t (expect_value t))
  by_second false t c ts = name_signed t c ts (or_unexpected t (expect_identifier t))

  -- an argument is read from its first token on
  from_first : (t : Token) (ts : List Token)
      → argument_from takes_values t ts ≡ ok_then (argument_given takes_values t (following t ts)) going_on
  from_first t [] = only_token takes_values t
  from_first t (c ∷ ts) = by_second (is_positional takes_values c) t c ts

  abbrev argument_on : Token × Tokens → Result Arguments Refusal
  argument_on g = ok_then (argument_given takes_values g.0 g.1) going_on

  due : (place : Place) (ts : List Token)
      → argument_due takes_values place ts ≡ ok_then (expect_next token_expected (record { following = place; left = ts })) argument_on
  due place [] = refl
  due place (t ∷ ts) = from_first t ts

  by_comma : (b : Bool) (t : Token) (more : List Token)
      → cond b (argument_due takes_values t.following more) (argument_from takes_values t more)
      ≡ ok_then (cond b (expect_next token_expected (following t more)) (Ok (t, following t more))) argument_on
  by_comma true t more = due t.following more
  by_comma false t more = from_first t more

  first_is : (ts : List Token) (given : Token × Tokens) → first_of ts ≡ Some given → ts ≡ given.0 ∷ given.1.left
  first_is [] given e = cc
  first_is (t ∷ more) given e = ap (λ o. elim o [ None ↦ t ∷ more | Some g ↦ g.0 ∷ g.1.left ]) e

  first_stands : (ts : List Token) (given : Token × Tokens) → first_of ts ≡ Some given → following given.0 given.1.left ≡ given.1
  first_stands [] given e = cc
  first_stands (t ∷ more) given e =
      sym (ap (λ o. elim o [ None ↦ following t more | Some g ↦ following g.0 g.1.left ]) e)
      ∙ ap (λ o. elim o [ None ↦ following t more | Some g ↦ g.1 ]) e

  -- what a returned token makes of the arguments
  arguments_of_first : (ts : List Token) (given : Token × Tokens) → first_of ts ≡ Some given
      → arguments_from takes_values ts ≡ ok_then (first_token given.0 given.1) argument_on
  arguments_of_first ts given e =
      ap (arguments_from takes_values) (first_is ts given e) ∙ by_comma (is_comma given.0) given.0 given.1.left
      ∙ ap (λ rest. ok_then (first_token given.0 rest) argument_on) (first_stands ts given e)

  -- some arguments after others
  abbrev joined : Arguments → Arguments → Arguments
  joined a b = record { positional = a.positional ++ b.positional; keyword = a.keyword ++ b.keyword }

  -- the arguments that were read, and those that the tokens after them make
  abbrev pub read_on : Arguments → List Token → Result Arguments Refusal
  read_on done ts = ok_then (arguments_from takes_values ts) (λ others. Ok (joined done others))

  joined_one : (done : Arguments) (a : Argument) (others : Arguments) → joined done (with_argument a others) ≡ joined (added done a) others
  joined_one done (positional e) others =
      ap (λ (ps : List ExpressionShape). record { positional = ps; keyword = done.keyword ++ others.keyword })
      (sym (append_assoc done.positional (e ∷ []) others.positional))
  joined_one done (named name e) others =
      ap (λ (ks : List (List ℕ × ExpressionShape)). record { positional = done.positional ++ others.positional; keyword = ks })
      (sym (append_assoc done.keyword ((name, e) ∷ []) others.keyword))

  moved : (done : Arguments) (a : Argument) (r : Result Arguments Refusal)
      → ok_then (before a r) (λ others. Ok (joined done others)) ≡ ok_then r (λ others. Ok (joined (added done a) others))
  moved done a (Ok others) = ap (λ x. Ok x) (joined_one done a others)
  moved done a (Err refusal) = refl

  -- one argument more is read
  pub argument_read : (done after : Arguments) (ts : List Token) (given first : Token × Tokens) (a : Argument) (rest : Tokens)
      (meant : Result Arguments Refusal)
      → meant ≡ read_on done ts → first_of ts ≡ Some given → first_token given.0 given.1 ≡ Ok first
      → argument_given takes_values first.0 first.1 ≡ Ok (a, rest) → after ≡ added done a → meant ≡ read_on after rest.left
  argument_read done after ts given first a rest meant so_far is begins is_argument pushed =
      so_far
      ∙ ap (λ r. ok_then r (λ others. Ok (joined done others))) (arguments_of_first ts given is
      ∙ ap (λ r. ok_then r argument_on) begins ∙ ap (λ r. ok_then r going_on) is_argument)
      ∙ moved done a (arguments_from takes_values rest.left)
      ∙ ap (λ all. read_on all rest.left) (sym pushed)

  -- the refusal of a comma that no token follows
  pub first_refused : (done : Arguments) (ts : List Token) (given : Token × Tokens) (o : Option Refusal) (meant : Result Arguments Refusal)
      → meant ≡ read_on done ts → first_of ts ≡ Some given → IfSome o (λ r. first_token given.0 given.1 ≡ Err r)
      → IfSome o (λ r. meant ≡ Err r)
  first_refused done ts given o meant so_far is refused =
      subst (λ q. IfSome o (λ r. q ≡ Err r))
      (sym (so_far ∙ ap (λ r. ok_then r (λ others. Ok (joined done others))) (arguments_of_first ts given is)))
      (then_refused o (ok_then (first_token given.0 given.1) argument_on) (λ others. Ok (joined done others))
      (then_refused o (first_token given.0 given.1) argument_on refused))

  -- the refusal of a token of an argument
  pub argument_refused : (done : Arguments) (ts : List Token) (given first : Token × Tokens) (o : Option Refusal)
      (meant : Result Arguments Refusal)
      → meant ≡ read_on done ts → first_of ts ≡ Some given → first_token given.0 given.1 ≡ Ok first
      → IfSome o (λ r. argument_given takes_values first.0 first.1 ≡ Err r) → IfSome o (λ r. meant ≡ Err r)
  argument_refused done ts given first o meant so_far is begins refused =
      subst (λ q. IfSome o (λ r. q ≡ Err r)) (sym (so_far ∙ ap (λ r. ok_then r (λ others. Ok (joined done others)))
      (arguments_of_first ts given is ∙ ap (λ r. ok_then r argument_on) begins)))
      (then_refused o (ok_then (argument_given takes_values first.0 first.1) going_on) (λ others. Ok (joined done others))
      (then_refused o (argument_given takes_values first.0 first.1) going_on refused))

  all_joined : (done : Arguments) → joined done no_arguments ≡ done
  all_joined done =
      ap (λ (ps : List ExpressionShape). record { positional = ps; keyword = done.keyword ++ [] }) (append-nil done.positional)
      ∙ ap (λ (ks : List (List ℕ × ExpressionShape)). record { positional = done.positional; keyword = ks }) (append-nil done.keyword)

  -- if no token is left, the arguments that were read are all
  pub all_read : (done : Arguments) (ts : List Token) (meant : Result Arguments Refusal) → meant ≡ read_on done ts → first_of ts ≡ None
      → meant ≡ Ok done
  all_read done ts meant so_far none = so_far ∙ ap (read_on done) (no_token ts none) ∙ ap (λ a. Ok a) (all_joined done)
