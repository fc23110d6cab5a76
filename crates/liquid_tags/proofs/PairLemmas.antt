-- How the pairs of a call continue.
use Rattle.std.proofs.Common.{◌≡◌, ℕ, List, [], ◌∷◌, ◌++◌, Option, None, Some, Result, Ok, Err, refl, sym, ap, subst, ◌∙◌, append_assoc}
use Rattle.std.specs.Prelude.{IfSome}
use Rattle.std.proofs.lemmas.List.{append-nil}
use Rattle.liquid_error.specs.declared.error.Error.{Error}
use Rattle.liquid_error.specs.meaning.Told.{Gives}
use Rattle.liquid_parser.specs.declared.cursor.token.TagToken.{TagToken}
use Rattle.liquid_parser.specs.declared.cursor.token.TryMatchToken.{TryMatchToken}
use Rattle.liquid_parser.specs.declared.cursor.token.TryMatchToken.TheVariants.{Matches, Fails}
use Rattle.liquid_parser.specs.meaning.Cursors.{FailedToken, IsToken, Tries, matched_of}
use Rattle.liquid_parser.proofs.StepLemmas.{then_refused}
use Rattle.liquid_error.specs.meaning.Refusal.{Refusal, ok_then}
use Rattle.liquid_plugins.specs.meaning.Expression.{ExpressionShape}
use Rattle.liquid_parser.specs.meaning.Handed.{Token, Tokens, first_of, expect_identifier, expect_value, or_unexpected}
use Rattle.liquid_tags.specs.meaning.Asked.{next_as}
use Rattle.liquid_tags.specs.meaning.CallsGiven.{colon, comma, expect_colon, expect_comma, missing_after, pair_given, pairs_given}
use Rattle.liquid_tags.specs.meaning.Partials.{Pair}
use Rattle.liquid_parser.proofs.NextLemmas.{no_token}

abbrev following : Token → List Token → Tokens
following t more = record { following = t.following; left = more }

abbrev on : {A : Type 0} → Tokens → A → Result (A × Tokens) Refusal
on ts x = Ok (x, ts)

abbrev with_name : List ℕ → ExpressionShape × Tokens → Result (Pair × Tokens) Refusal
with_name name value = Ok ((name, value.0), value.1)

abbrev with_pair : List ℕ → ExpressionShape → List Pair → Result (List Pair) Refusal
with_pair name value pairs = Ok ((name, value) ∷ pairs)

abbrev pub going_on : Pair × Tokens → Result (List Pair) Refusal
going_on g = ok_then (pairs_given g.1.left) (λ qs. Ok (g.0 ∷ qs))

valued : (name : List ℕ) (e : Token) (more : List Token) (r : Result ExpressionShape Refusal)
    → ok_then r (λ value. ok_then (pairs_given more) (with_pair name value))
    ≡ ok_then (ok_then (ok_then r (on (following e more))) (with_name name)) going_on
valued name e more (Ok x) = refl
valued name e more (Err refusal) = refl

coloned : (name : List ℕ) (d e : Token) (more : List Token) (r : Result (Unit {0}) Refusal)
    → ok_then r (λ w. ok_then (or_unexpected e (expect_value e)) (λ value. ok_then (pairs_given more) (with_pair name value)))
    ≡ ok_then (ok_then (ok_then r (on (following d (e ∷ more))))
    (λ (sign : Unit {0} × Tokens). ok_then (next_as expect_value sign.1) (with_name name))) going_on
coloned name d e more (Ok x) = valued name e more (or_unexpected e (expect_value e))
coloned name d e more (Err refusal) = refl

coloned_last : (name : List ℕ) (d : Token) (r : Result (Unit {0}) Refusal)
    → ok_then r (λ w. missing_after d)
    ≡ ok_then (ok_then (ok_then r (on (following d []))) (λ (sign : Unit {0} × Tokens). ok_then (next_as expect_value sign.1)
    (with_name name))) going_on
coloned_last name d (Ok x) = refl
coloned_last name d (Err refusal) = refl

abbrev named : Result (List ℕ × Tokens) Refusal → Result (List Pair) Refusal
named r =
    ok_then (ok_then r (λ name. ok_then (next_as expect_colon name.1)
    (λ (sign : Unit {0} × Tokens). ok_then (next_as expect_value sign.1) (with_name name.0)))) going_on

named_on : (n d e : Token) (more : List Token) (r : Result (List ℕ) Refusal)
    → ok_then r (λ name. ok_then (colon d) (λ w. ok_then (or_unexpected e (expect_value e))
    (λ value. ok_then (pairs_given more) (with_pair name value))))
    ≡ named (ok_then r (on (following n (d ∷ e ∷ more))))
named_on n d e more (Ok name) = coloned name d e more (colon d)
named_on n d e more (Err refusal) = refl

named_two : (n d : Token) (r : Result (List ℕ) Refusal) → ok_then r (λ name. ok_then (colon d) (λ w. missing_after d)) ≡ named
    (ok_then r (on (following n (d ∷ []))))
named_two n d (Ok name) = coloned_last name d (colon d)
named_two n d (Err refusal) = refl

named_last : (n : Token) (r : Result (List ℕ) Refusal) → ok_then r (λ name. missing_after n) ≡ named (ok_then r (on (following n [])))
named_last n (Ok name) = refl
named_last n (Err refusal) = refl

on_comma : {A : Type 0} (r : Result (Unit {0}) Refusal) (x y : Result A Refusal) → x ≡ y → ok_then r (λ u. x) ≡ ok_then r (λ u. y)
on_comma (Ok u) x y e = e
on_comma (Err refusal) x y e = refl

-- after a comma there is one pair, and the pairs after it
pub pairs_step : (c : Token) (more : List Token) → pairs_given (c ∷ more) ≡ ok_then (comma c)
    (λ u. ok_then (pair_given (following c more)) going_on)
pairs_step c [] = refl
pairs_step c (n ∷ []) = on_comma (comma c) _ _ (named_last n (or_unexpected n (expect_identifier n)))
pairs_step c (n ∷ d ∷ []) = on_comma (comma c) _ _ (named_two n d (or_unexpected n (expect_identifier n)))
pairs_step c (n ∷ d ∷ e ∷ more) = on_comma (comma c) _ _ (named_on n d e more (or_unexpected n (expect_identifier n)))

-- the token that is returned, and those after it, are the list
first_is : (ts : List Token) (given : Token × Tokens) → first_of ts ≡ Some given → ts ≡ given.0 ∷ given.1.left
first_is [] given e = cc
first_is (t ∷ more) given e = ap (λ o. elim o [ None ↦ t ∷ more | Some g ↦ g.0 ∷ g.1.left ]) e

first_stands : (ts : List Token) (given : Token × Tokens) → first_of ts ≡ Some given → following given.0 given.1.left ≡ given.1
first_stands [] given e = cc
first_stands (t ∷ more) given e =
    sym (ap (λ o. elim o [ None ↦ following t more | Some g ↦ following g.0 g.1.left ]) e)
    ∙ ap (λ o. elim o [ None ↦ following t more | Some g ↦ g.1 ]) e

-- what a returned token makes of the pairs
pub pairs_of_first : (ts : List Token) (given : Token × Tokens) → first_of ts ≡ Some given
    → pairs_given ts ≡ ok_then (comma given.0) (λ u. ok_then (pair_given given.1) going_on)
pairs_of_first ts given e =
    ap pairs_given (first_is ts given e) ∙ pairs_step given.0 given.1.left
    ∙ ap (λ rest. ok_then (comma given.0) (λ u. ok_then (pair_given rest) going_on)) (first_stands ts given e)

-- a name, a colon and a value are a pair
pub pair_taken : (ts named signed valued : Tokens) (name text : List ℕ) (u : Unit {0}) (e : ExpressionShape)
    → next_as expect_identifier ts ≡ Ok (name, named) → next_as expect_colon named ≡ Ok (u, signed)
    → next_as expect_value signed ≡ Ok (e, valued) → text ≡ name
    → pair_given ts ≡ Ok ((text, e), valued)
pair_taken ts named signed valued name text u e is_named is_signed is_valued same =
    ap (λ r. ok_then r (λ (x : List ℕ × Tokens). ok_then (next_as expect_colon x.1)
    (λ (sign : Unit {0} × Tokens). ok_then (next_as expect_value sign.1) (with_name x.0)))) is_named
    ∙ ap (λ r. ok_then r (λ (sign : Unit {0} × Tokens). ok_then (next_as expect_value sign.1) (with_name name))) is_signed
    ∙ ap (λ r. ok_then r (with_name name)) is_valued
    ∙ ap (λ (n : List ℕ). with_name n (e, valued)) (sym same)

-- the result for a token where a comma is expected
pub comma_given : (t : Token) (token : TagToken) (attempt : TryMatchToken (Unit {0})) (r : Result (Unit {0}) Error) → IsToken token t
    → Tries (λ u. u) token attempt (expect_comma t)
    → ((u : Token) → FailedToken attempt u → Gives (λ x. x) r (or_unexpected u (matched_of attempt))) → Gives (λ u. u) r (comma t)
comma_given t token (Matches y) r is tries gives = subst (λ m. Gives (λ u. u) r (or_unexpected t m)) (sym tries) (gives t tt)
comma_given t token (Fails u) r is tries gives =
    subst (λ m. Gives (λ u. u) r (or_unexpected t m)) (sym tries.0) (gives t (subst (λ k. IsToken k t) (sym tries.1) is))

-- the pairs that were read, and those that the tokens after them make
abbrev pub read_on : List Pair → List Token → Result (List Pair) Refusal
read_on done ts = ok_then (pairs_given ts) (λ qs. Ok (done ++ qs))

pub joined : (done : List Pair) (pair : Pair) (r : Result (List Pair) Refusal)
    → ok_then (ok_then r (λ qs. Ok (pair ∷ qs))) (λ qs. Ok (done ++ qs)) ≡ ok_then r (λ qs. Ok ((done ++ pair ∷ []) ++ qs))
joined done pair (Ok qs) = ap (λ ps. Ok ps) (sym (append_assoc done (pair ∷ []) qs))
joined done pair (Err refusal) = refl

-- after a comma one more pair is read
pub pair_read : (done after : List Pair) (ts : List Token) (given : Token × Tokens) (pair : Pair) (rest : Tokens) (u : Unit {0})
    (meant : Result (List Pair) Refusal)
    → meant ≡ read_on done ts → first_of ts ≡ Some given → comma given.0 ≡ Ok u → pair_given given.1 ≡ Ok (pair, rest) → after ≡ done
    ++ pair ∷ []
    → meant ≡ read_on after rest.left
pair_read done after ts given pair rest u meant so_far first is_comma is_pair pushed =
    so_far
    ∙ ap (λ r. ok_then r (λ qs. Ok (done ++ qs))) (pairs_of_first ts given first
    ∙ ap (λ r. ok_then r (λ w. ok_then (pair_given given.1) going_on)) is_comma ∙ ap (λ r. ok_then r going_on) is_pair)
    ∙ joined done pair (pairs_given rest.left)
    ∙ ap (λ ps. read_on ps rest.left) (sym pushed)

-- the refusal of a token that is not a comma
pub comma_refused : (done : List Pair) (ts : List Token) (given : Token × Tokens) (o : Option Refusal) (meant : Result (List Pair) Refusal)
    → meant ≡ read_on done ts → first_of ts ≡ Some given → IfSome o (λ r. comma given.0 ≡ Err r) → IfSome o (λ r. meant ≡ Err r)
comma_refused done ts given o meant so_far first refused =
    subst (λ q. IfSome o (λ r. q ≡ Err r)) (sym (so_far ∙ ap (λ r. ok_then r (λ qs. Ok (done ++ qs))) (pairs_of_first ts given first)))
    (then_refused o (ok_then (comma given.0) (λ u. ok_then (pair_given given.1) going_on)) (λ qs. Ok (done ++ qs))
    (then_refused o (comma given.0) (λ u. ok_then (pair_given given.1) going_on) refused))

-- the refusal of what follows a comma
pub pair_refused : (done : List Pair) (ts : List Token) (given : Token × Tokens) (u : Unit {0}) (o : Option Refusal)
    (meant : Result (List Pair) Refusal)
    → meant ≡ read_on done ts → first_of ts ≡ Some given → comma given.0 ≡ Ok u → IfSome o (λ r. pair_given given.1 ≡ Err r)
    → IfSome o (λ r. meant ≡ Err r)
pair_refused done ts given u o meant so_far first is_comma refused =
    subst (λ q. IfSome o (λ r. q ≡ Err r)) (sym (so_far ∙ ap (λ r. ok_then r (λ qs. Ok (done ++ qs)))
    (pairs_of_first ts given first ∙ ap (λ r. ok_then r (λ w. ok_then (pair_given given.1) going_on)) is_comma)))
    (then_refused o (ok_then (pair_given given.1) going_on) (λ qs. Ok (done ++ qs)) (then_refused o (pair_given given.1) going_on refused))

-- if no token is left, the pairs that were read are all
pub all_read : (done : List Pair) (ts : List Token) (meant : Result (List Pair) Refusal) → meant ≡ read_on done ts → first_of ts ≡ None
    → meant ≡ Ok done
all_read done ts meant so_far none = so_far ∙ ap (read_on done) (no_token ts none) ∙ ap (λ ps. Ok ps) (append-nil done)
