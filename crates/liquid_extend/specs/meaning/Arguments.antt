-- The arguments that the tokens of a tag make.
use Rattle.std.specs.Prelude.{ℕ, List, [], ◌∷◌, codes, Bool, true, false, not, ◌&&◌, bytes_eq, cond, map, string_bytes, Vec}
use Rattle.std.specs.Prelude.{Option, String, Result, Ok, Err}
use Rattle.std.specs.declared.alloc.Global.{Global}
use Rattle.liquid_error.specs.declared.place.Place.{Place}
use Rattle.liquid_error.specs.meaning.Refusal.{Refusal, located, ok_then}
use Rattle.liquid_plugins.specs.declared.expression.Expression.{Expression}
use Rattle.liquid_plugins.specs.meaning.ArgumentsOf.{Arguments}
use Rattle.liquid_plugins.specs.meaning.Expression.{ExpressionShape}
use Rattle.liquid_plugins.specs.meaning.ExpressionOf.{expression_of}
use Rattle.liquid_parser.specs.meaning.Cursors.{expect_str}
use Rattle.liquid_parser.specs.meaning.Handed.{Token, Tokens, expect_identifier, expect_value, no_arguments, or_unexpected}

-- an argument: a value, or a value with a name
pub data Argument : Type 0 where
  positional : ExpressionShape → Argument
  named : List ℕ → ExpressionShape → Argument

-- an argument before others
abbrev pub with_argument : Argument → Arguments → Arguments
with_argument (positional e) a = record a { positional = e ∷ a.positional }
with_argument (named name e) a = record a { keyword = (name, e) ∷ a.keyword }

abbrev pub before : Argument → Result Arguments Refusal → Result Arguments Refusal
before a more = ok_then more (λ others. Ok (with_argument a others))

abbrev pub token_expected : List ℕ
token_expected = codes "Token expected"

abbrev pub is_comma : Token → Bool
is_comma t = bytes_eq t.text (codes ",")

abbrev pub is_colon : Token → Bool
is_colon t = bytes_eq t.text (codes ":")

abbrev pub expect_colon : Token → Option (Unit {0})
expect_colon = expect_str (codes ":")

-- an argument begins with a name and a colon, or is a value if such are taken
abbrev pub is_positional : Bool → Token → Bool
is_positional takes_values following = takes_values && not (is_colon following)

-- the arguments that all tokens make: before each there may be a comma
abbrev mutual
  pub arguments_from : Bool → List Token → Result Arguments Refusal
  arguments_from takes_values [] = Ok no_arguments
  arguments_from takes_values (t ∷ ts) =
      cond (is_comma t) (argument_due takes_values t.following ts) (argument_from takes_values t ts)

  -- an argument has to follow
  pub argument_due : Bool → Place → List Token → Result Arguments Refusal
  argument_due takes_values place [] = Err (located token_expected place)
  argument_due takes_values place (t ∷ ts) = argument_from takes_values t ts

  -- an argument whose first token is this one
  pub argument_from : Bool → Token → List Token → Result Arguments Refusal
  argument_from takes_values t [] =
      cond takes_values (ok_then (or_unexpected t (expect_value t)) (λ e. before (positional e) (Ok no_arguments)))
      (ok_then (or_unexpected t (expect_identifier t)) (λ name. Err (located token_expected t.following)))
  argument_from takes_values t (c ∷ ts) =
      cond (is_positional takes_values c)
      (ok_then (or_unexpected t (expect_value t)) (λ e. before (positional e)
      (cond (is_comma c) (argument_due takes_values c.following ts) (argument_from takes_values c ts))))
      (ok_then (or_unexpected t (expect_identifier t)) (λ name. ok_then (or_unexpected c (expect_colon c)) (λ u.
      value_due takes_values name c.following ts)))

  -- the value of a name has to follow
  pub value_due : Bool → List ℕ → Place → List Token → Result Arguments Refusal
  value_due takes_values name place [] = Err (located token_expected place)
  value_due takes_values name place (e ∷ ts) =
      ok_then (or_unexpected e (expect_value e)) (λ value. before (named name value) (arguments_from takes_values ts))

-- the arguments of a tag that takes values and pairs
abbrev pub arguments_given : Tokens → Result Arguments Refusal
arguments_given ts = arguments_from true ts.left

-- the pairs of a tag that takes pairs alone
abbrev pub Pairs : Type 0
Pairs = List (List ℕ × ExpressionShape)

abbrev pub pairs_given : Tokens → Result Pairs Refusal
pairs_given ts = ok_then (arguments_from false ts.left) (λ a. Ok a.keyword)

abbrev pub pairs_of : Vec (String Global × Expression) Global → Pairs
pairs_of v = map (λ p. (string_bytes p.0, expression_of p.1)) v.items
