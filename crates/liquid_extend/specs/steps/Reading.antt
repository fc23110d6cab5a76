-- One argument after another.
use Rattle.std.specs.Prelude.{List, [], ◌∷◌, ◌++◌, Bool, cond, Result, Ok}
use Rattle.liquid_error.specs.meaning.Refusal.{Refusal, ok_then}
use Rattle.liquid_plugins.specs.meaning.ArgumentsOf.{Arguments}
use Rattle.liquid_plugins.specs.meaning.ExpressionOf.{expression_of}
use Rattle.liquid_parser.specs.meaning.Cursors.{next_as}
use Rattle.liquid_parser.specs.meaning.Handed.{Token, Tokens, expect_identifier, expect_next, expect_value, or_unexpected}
use Rattle.liquid_extend.specs.declared.arguments.ReadArgument.{ReadArgument}
use Rattle.liquid_extend.specs.declared.arguments.ReadArgument.TheVariants as read
use Rattle.liquid_extend.specs.meaning.Arguments.{Argument, positional, named, expect_colon, is_comma, is_positional, token_expected}

-- the shape of an argument that was read
abbrev pub argument_of : ReadArgument → Argument
argument_of (read.Positional e) = positional (expression_of e)
argument_of (read.Named name e) = named name.now (expression_of e)

-- an argument after others
abbrev pub added : Arguments → Argument → Arguments
added a (positional e) = record a { positional = a.positional ++ e ∷ [] }
added a (named name e) = record a { keyword = a.keyword ++ (name, e) ∷ [] }

-- the first token of an argument: after a comma the next one, and otherwise this one
abbrev pub first_token : Token → Tokens → Result (Token × Tokens) Refusal
first_token t ts = cond (is_comma t) (expect_next token_expected ts) (Ok (t, ts))

-- whether the token is a value, by the token after it
abbrev pub is_value_next : Bool → List Token → Bool
is_value_next takes_values [] = takes_values
is_value_next takes_values (c ∷ ts) = is_positional takes_values c

-- the argument whose first token this is, and the tokens after it
abbrev pub value_given : Token → Tokens → Result (Argument × Tokens) Refusal
value_given t ts = ok_then (or_unexpected t (expect_value t)) (λ e. Ok (positional e, ts))

abbrev pub pair_given : Token → Tokens → Result (Argument × Tokens) Refusal
pair_given t ts =
    ok_then (or_unexpected t (expect_identifier t)) (λ name. ok_then (next_as token_expected expect_colon ts) (λ sign.
    ok_then (next_as token_expected expect_value sign.1) (λ value. Ok (named name value.0, value.1))))

abbrev pub argument_given : Bool → Token → Tokens → Result (Argument × Tokens) Refusal
argument_given takes_values t ts = cond (is_value_next takes_values ts.left) (value_given t ts) (pair_given t ts)
