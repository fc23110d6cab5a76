-- One pair after another, and the word that comes next.
use Rattle.std.specs.Prelude.{◌≡◌, Bool, cond, Option, None, Some, option_and_then, Result, Ok}
use Rattle.liquid_error.specs.meaning.Refusal.{Refusal, ok_then}
use Rattle.liquid_parser.specs.declared.cursor.token.TagToken.{TagToken}
use Rattle.liquid_parser.specs.declared.cursor.tokens.TagTokenIter.{TagTokenIter}
use Rattle.liquid_parser.specs.meaning.Cursors.{IsHandedOut}
use Rattle.liquid_parser.specs.meaning.Handed.{Token, Tokens, expect_identifier, expect_value, next, or_unexpected}
use Rattle.liquid_parser.specs.meaning.Plugins.{AreTokens}
use Rattle.liquid_tags.specs.meaning.Asked.{next_as}
use Rattle.liquid_tags.specs.meaning.CallsGiven.{expect_colon}
use Rattle.liquid_tags.specs.meaning.Partials.{Pair}
use Rattle.liquid_std.specs.meaning.inclusion.CallsGiven.{is_comma}

-- the pair whose first token this is, and the tokens after it
abbrev pub pair_given : Token → Tokens → Result (Pair × Tokens) Refusal
pair_given t ts =
    ok_then (or_unexpected t (expect_identifier t)) (λ name. ok_then (next_as expect_colon ts) (λ sign.
    ok_then (next_as expect_value sign.1) (λ value. Ok ((name, value.0), value.1))))

-- the first token of the next pair: the next token, or the one after it if that is a comma
abbrev pub first_by : Token × Tokens → Bool → Option (Token × Tokens)
first_by given b = cond b (next given.1) (Some given)

abbrev pub next_first : Tokens → Option (Token × Tokens)
next_first ts = option_and_then (λ given. first_by given (is_comma given.0)) (next ts)

-- what was returned is meant
abbrev pub Finds : Option TagToken → TagTokenIter → Option (Token × Tokens) → Type 0
Finds (Some t) cursor meant = (given : Token × Tokens) × (meant ≡ Some given) × IsHandedOut t cursor given
Finds None cursor meant = meant ≡ None

-- a cursor over the tokens that are left, or none
abbrev pub AreLeft : Option TagTokenIter → Option Tokens → Type 0
AreLeft None left = left ≡ None
AreLeft (Some cursor) left = (after : Tokens) × (left ≡ Some after) × AreTokens cursor after
