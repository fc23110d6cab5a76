-- What tags and blocks expect of their tokens.
use Rattle.std.specs.Prelude.{codes, List, ℕ, Option, Result, Ok}
use Rattle.liquid_error.specs.meaning.Refusal.{Refusal, ok_then}
use Rattle.liquid_parser.specs.meaning.Cursors as cursors
use Rattle.liquid_parser.specs.meaning.Handed.{Token, Tokens, expect_nothing}

-- the message of a token that is missing
abbrev pub token_expected : List ℕ
token_expected = codes "Token expected"

-- the next token, as what is expected of it, and the tokens after it
abbrev pub next_as : {A : Type 0} → (Token → Option A) → Tokens → Result (A × Tokens) Refusal
next_as expect ts = cursors.next_as token_expected expect ts

-- this, if no token is left
abbrev pub alone : {A : Type 0} → A → Tokens → Result A Refusal
alone x ts = ok_then (expect_nothing ts) (λ u. Ok x)
