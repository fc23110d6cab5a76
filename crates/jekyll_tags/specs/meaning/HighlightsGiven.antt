-- What blocks of code make of their tokens.
use Rattle.std.specs.Prelude.{ℕ, Bool, true, false, ◌&&◌, cond, List, [], ◌∷◌, bytes_eq, codes, Result, Ok}
use Rattle.liquid_error.specs.declared.place.Place.{Place}
use Rattle.liquid_error.specs.meaning.Refusal.{Refusal, ok_then}
use Rattle.liquid_value.specs.meaning.Render.{render}
use Rattle.liquid_parser.specs.meaning.Handed.{Token, Tokens, expect_identifier, expect_literal, expect_value, or_unexpected}
use Rattle.liquid_strings.specs.meaning.Cases.{lowercased}
use Rattle.liquid_tags.specs.meaning.Asked.{next_as}
use Rattle.liquid_std.specs.meaning.inclusion.CallsGiven.{missing}
use Rattle.jekyll_tags.specs.declared.highlight.HighlightShape.{HighlightShape}

-- the text of a literal, in lower case, and the tokens after it
abbrev pub language_given : Tokens → Result (List ℕ × Tokens) Refusal
language_given ts = ok_then (next_as expect_literal ts) (λ literal. Ok (lowercased (render literal.0), literal.1))

-- all tokens are names, each perhaps with `=` and a value after it
abbrev mutual
  pub options_from : (named : Bool) → List Token → Result (Unit {0}) Refusal
  options_from named [] = Ok tt
  options_from named (t ∷ ts) =
      cond (named && bytes_eq t.text (codes "=")) (value_from t.following ts)
      (ok_then (or_unexpected t (expect_identifier t)) (λ name. options_from true ts))

  pub value_from : Place → List Token → Result (Unit {0}) Refusal
  value_from place [] = missing place
  value_from place (t ∷ ts) = ok_then (or_unexpected t (expect_value t)) (λ value. options_from false ts)

-- the option whose token this is: whether it is a name, and the tokens after it
abbrev pub option_given : (named : Bool) → Token → Tokens → Result (Bool × Tokens) Refusal
option_given named t ts =
    cond (named && bytes_eq t.text (codes "=")) (ok_then (next_as expect_value ts) (λ value. Ok (false, value.1)))
    (ok_then (or_unexpected t (expect_identifier t)) (λ name. Ok (true, ts)))

abbrev pub highlight_given : Tokens → Result HighlightShape Refusal
highlight_given ts =
    ok_then (language_given ts) (λ l. ok_then (options_from false l.1.left) (λ u. Ok (record { language = l.0 })))
