-- The calls of partials that tokens make.
use Rattle.std.specs.Prelude.{List, [], ◌∷◌, codes, Option, Result, Ok, Err}
use Rattle.liquid_error.specs.meaning.Refusal.{Refusal, located, ok_then}
use Rattle.liquid_parser.specs.meaning.Handed.{Token, Tokens, expect_identifier, expect_value, or_unexpected}
use Rattle.liquid_parser.specs.meaning.Cursors.{expect_str}
use Rattle.liquid_tags.specs.meaning.Asked.{next_as, token_expected}
use Rattle.liquid_tags.specs.meaning.Partials.{CallShape, Pair}

-- a comma, a name, a colon and a value, for each pair
abbrev pub expect_comma : Token → Option (Unit {0})
expect_comma = expect_str (codes ",")

abbrev pub comma : Token → Result (Unit {0}) Refusal
comma t = or_unexpected t (expect_comma t)

abbrev pub expect_colon : Token → Option (Unit {0})
expect_colon = expect_str (codes ":")

abbrev pub colon : Token → Result (Unit {0}) Refusal
colon t = or_unexpected t (expect_colon t)

abbrev pub missing_after : {A : Type 0} → Token → Result A Refusal
missing_after t = Err (located token_expected t.following)

-- the pairs that tokens make; the first one that doesn't fit, or is missing, is refused
abbrev pub pairs_given : List Token → Result (List Pair) Refusal
pairs_given [] = Ok []
pairs_given (c ∷ []) = ok_then (comma c) (λ u. missing_after c)
pairs_given (c ∷ n ∷ []) = ok_then (comma c) (λ u. ok_then (or_unexpected n (expect_identifier n)) (λ name. missing_after n))
pairs_given (c ∷ n ∷ d ∷ []) =
    ok_then (comma c) (λ u. ok_then (or_unexpected n (expect_identifier n)) (λ name. ok_then (colon d) (λ w. missing_after d)))
pairs_given (c ∷ n ∷ d ∷ e ∷ more) =
    ok_then (comma c) (λ u. ok_then (or_unexpected n (expect_identifier n)) (λ name. ok_then (colon d) (λ w.
    ok_then (or_unexpected e (expect_value e)) (λ value. ok_then (pairs_given more) (λ pairs. Ok ((name, value) ∷ pairs))))))

-- a value, and pairs
abbrev pub call_given : Tokens → Result CallShape Refusal
call_given ts = ok_then (next_as expect_value ts) (λ value. ok_then (pairs_given value.1.left) (λ pairs. Ok (value.0, pairs)))

-- the pair that the next tokens make, after its comma, and the tokens after it
abbrev pub pair_given : Tokens → Result (Pair × Tokens) Refusal
pair_given ts =
    ok_then (next_as expect_identifier ts) (λ name. ok_then (next_as expect_colon name.1) (λ sign.
    ok_then (next_as expect_value sign.1) (λ value. Ok ((name.0, value.0), value.1))))
