-- What the test tags and blocks expect of their tokens.
use Rattle.std.specs.Prelude.{ℕ, List, codes, Result, Ok}
use Rattle.liquid_error.specs.meaning.Refusal.{Refusal, ok_then}
use Rattle.liquid_plugins.specs.meaning.Expression.{ExpressionShape}
use Rattle.liquid_parser.specs.meaning.Cursors.{next_as}
use Rattle.liquid_parser.specs.meaning.Handed.{Tokens, expect_nothing, expect_identifier, expect_value}

-- the message of a token that is missing
abbrev pub token_expected : List ℕ
token_expected = codes "Token expected"

-- a name, and no token after it
abbrev pub name_alone : Tokens → Result (List ℕ) Refusal
name_alone ts = ok_then (next_as token_expected expect_identifier ts) (λ name. ok_then (expect_nothing name.1) (λ u. Ok name.0))

-- a name and a value, and no token after them
abbrev pub name_and_value : Tokens → Result (List ℕ × ExpressionShape) Refusal
name_and_value ts =
    ok_then (next_as token_expected expect_identifier ts) (λ name.
    ok_then (next_as token_expected expect_value name.1) (λ value. ok_then (expect_nothing value.1) (λ u. Ok (name.0, value.0))))

-- no token
abbrev pub nothing_for : {A : Type 0} → A → Tokens → Result A Refusal
nothing_for x ts = ok_then (expect_nothing ts) (λ u. Ok x)
