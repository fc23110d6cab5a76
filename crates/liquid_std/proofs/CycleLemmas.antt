-- The name in the tokens of a `cycle`, and the values after it.
use Rattle.std.proofs.Common.{◌≡◌, List, ℕ, codes, Bool, true, false, cond, Option, None, Some, Result, Ok, Err, sym, ap, subst, ◌∙◌}
use Rattle.std.specs.Prelude.{bytes_eq, option_and_then, IfSome}
use Rattle.liquid_error.specs.declared.error.Error.{Error}
use Rattle.liquid_error.specs.meaning.Refusal.{Refusal, ok_then}
use Rattle.liquid_error.specs.meaning.Told.{Gives, told}
use Rattle.liquid_plugins.specs.declared.expression.Expression.{Expression}
use Rattle.liquid_plugins.specs.meaning.Expression.{ExpressionShape}
use Rattle.liquid_plugins.specs.meaning.ExpressionOf.{expression_of}
use Rattle.liquid_parser.specs.declared.cursor.token.TagToken.{TagToken}
use Rattle.liquid_parser.specs.declared.cursor.token.TryMatchToken.{TryMatchToken}
use Rattle.liquid_parser.specs.declared.cursor.token.TryMatchToken.TheVariants.{Matches, Fails}
use Rattle.liquid_parser.specs.meaning.Cursors.{IsToken, Tries, FailedToken, matched_of}
use Rattle.liquid_parser.specs.meaning.Handed.{Token, Tokens, expect_value, next, or_unexpected, unexpected}
use Rattle.liquid_std.specs.declared.marks.groups.GroupShape.TheVariants.{Named}
use Rattle.liquid_std.specs.declared.marks.cycle.CycleShape.{CycleShape}
use Rattle.liquid_std.specs.meaning.CyclesGiven.{cycled, if_colon, name_in, named_given}

-- what comes of the next token
abbrev after_name : Token × Tokens → Option (Token × Tokens)
after_name name = option_and_then (if_colon name.0) (next name.1)

-- what comes of the token after it
abbrev by_colon : Token × Tokens → Token × Tokens → Bool → Option (Token × Tokens)
by_colon name colon b = cond b (Some (name.0, colon.1)) None

second_token : (ts : Tokens) (name colon : Token × Tokens) (text : List ℕ) (b : Bool) → next ts ≡ Some name → next name.1 ≡ Some colon
    → text ≡ colon.0.text → bytes_eq text (codes ":") ≡ b
    → name_in ts ≡ by_colon name colon b
second_token ts name colon text b one two same is =
    ap (option_and_then after_name) one ∙ ap (option_and_then (if_colon name.0)) two
    ∙ ap (by_colon name colon) (ap (λ x. bytes_eq x (codes ":")) (sym same) ∙ is)

-- with a colon after it the next token is a name
pub name_taken : (ts : Tokens) (name colon : Token × Tokens) (text : List ℕ) → next ts ≡ Some name → next name.1 ≡ Some colon
    → text ≡ colon.0.text → bytes_eq text (codes ":") ≡ true
    → name_in ts ≡ Some (name.0, colon.1)
name_taken ts name colon text one two same is = second_token ts name colon text true one two same is

pub other_token : (ts : Tokens) (name colon : Token × Tokens) (text : List ℕ) → next ts ≡ Some name → next name.1 ≡ Some colon
    → text ≡ colon.0.text → bytes_eq text (codes ":") ≡ false
    → name_in ts ≡ None
other_token ts name colon text one two same is = second_token ts name colon text false one two same is

pub no_token : (ts : Tokens) → next ts ≡ None → name_in ts ≡ None
no_token ts none = ap (option_and_then after_name) none

-- what a token is read as
module _ (t : Token) where
  not_refused : (x : Expression) (q : Option ExpressionShape) (o : Option Refusal)
      → IfSome o (λ r. let read : Result Expression Refusal = Ok x in read ≡ Err r) → IfSome o (λ r. or_unexpected t q ≡ Err r)
  not_refused x q None h = h
  not_refused x q (Some r) h = cc h

  refused_alike : (o : Option Refusal) → IfSome o (λ r. let read : Result Expression Refusal = Err (unexpected t) in read ≡ Err r)
      → IfSome o (λ r. let read : Result ExpressionShape Refusal = Err (unexpected t) in read ≡ Err r)
  refused_alike None h = h
  refused_alike (Some r) h = ap (λ q. ok_then q (λ a. Ok (expression_of a))) h

  pub value_read : (token : TagToken) (attempt : TryMatchToken Expression) (result : Result Expression Error) → IsToken token t
      → Tries expression_of token attempt (expect_value t)
      → ((u : Token) → FailedToken attempt u → Gives (λ x. x) result (or_unexpected u (matched_of attempt)))
      → Gives expression_of result (or_unexpected t (expect_value t))
  value_read token (Matches x) (Ok y) is tries gives =
      ap (or_unexpected t) tries ∙ ap (λ q. ok_then q (λ a. Ok (expression_of a))) (gives t tt)
  value_read token (Matches x) (Err e) is tries gives = not_refused x (expect_value t) (told e) (gives t tt)
  value_read token (Fails u) (Ok y) is tries gives =
      ap (or_unexpected t) tries.0 ∙ ap (λ q. ok_then q (λ a. Ok (expression_of a))) (gives t (subst (λ k. IsToken k t) (sym tries.1) is))
  value_read token (Fails u) (Err e) is tries gives =
      subst (λ o. IfSome (told e) (λ r. or_unexpected t o ≡ Err r)) (sym tries.0)
      (refused_alike (told e) (gives t (subst (λ k. IsToken k t) (sym tries.1) is)))

  module _ (ts : Tokens) where
    -- the name, and the values after it
    abbrev by_values : ExpressionShape → Result (List ExpressionShape) Refusal → Result CycleShape Refusal
    by_values name values = ok_then values (λ es. Ok (record { group = Named name; values = es }))

    abbrev by_name : Result ExpressionShape Refusal → Result CycleShape Refusal
    by_name name = ok_then name (λ e. by_values e (cycled ts))

    pub named_read : (name : ExpressionShape) (values : List ExpressionShape) → or_unexpected t (expect_value t) ≡ Ok name
        → cycled ts ≡ Ok values
        → named_given t ts ≡ Ok (record { group = Named name; values = values })
    named_read name values one two = ap by_name one ∙ ap (by_values name) two

    pub values_refused : (name : ExpressionShape) (o : Option Refusal) → or_unexpected t (expect_value t) ≡ Ok name
        → IfSome o (λ r. cycled ts ≡ Err r) → IfSome o (λ r. named_given t ts ≡ Err r)
    values_refused name None one h = h
    values_refused name (Some r) one h = ap by_name one ∙ ap (by_values name) h

    pub name_refused : (o : Option Refusal) → IfSome o (λ r. or_unexpected t (expect_value t) ≡ Err r)
        → IfSome o (λ r. named_given t ts ≡ Err r)
    name_refused None h = h
    name_refused (Some r) h = ap by_name h
