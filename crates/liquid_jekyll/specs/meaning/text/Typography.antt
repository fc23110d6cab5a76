-- Typography: quotes, dashes and other signs in place of how they are typed.
use Rattle.std.specs.Prelude.{
  ℕ,
  ◌-◌,
  Bool,
  ◌==◌,
  ◌&&◌,
  ◌||◌,
  nat_lt,
  List,
  [],
  ◌∷◌,
  ◌++◌,
  Option,
  None,
  Some,
  chars,
  codes,
  encode_utf8_all,
  if◌then◌else◌,
}
use Rattle.std.specs.List.{list_any}
use Rattle.std.specs.Str.{byte}
use Rattle.liquid_jekyll.specs.declared.text.quotes.Mark.{Mark}
use Rattle.liquid_jekyll.specs.declared.text.quotes.Mark.TheVariants.{
  Plain,
  Opening,
  Closing,
  ThenOpening,
  ThenClosing,
  BothOpening,
  ThenBothOpening,
  EmDash,
  EnDash,
  Ellipsis,
  Guillemet,
  SpacedGuillemet,
}
use Rattle.liquid_jekyll.specs.meaning.text.Quotes.{at, is_quote, more, quote_mark}
use Rattle.liquid_jekyll.specs.meaning.text.Runs.{without_last}

-- whether a string begins with two characters
abbrev pub begins : List ℕ → ℕ → ℕ → Bool
begins text c d = at text 0 == c && at text 1 == d

-- what stands at the start of a string
abbrev pub mark_at : List ℕ → Mark
mark_at text =
    if is_quote (at text 0) || is_quote (at text 1) then quote_mark text
    else if begins text (byte "-") (byte "-") then (if at text 2 == byte "-" then EmDash else EnDash)
    else if begins text (byte ".") (byte ".") && at text 2 == byte "." then Ellipsis
    else if begins text (byte " ") (byte ">") && at text 2 == byte ">" then SpacedGuillemet
    else if begins text (byte ">") (byte ">") then Guillemet
    else Plain

-- the quotes `“`, `‘`, `”` and `’`
abbrev pub opening : ℕ → ℕ
opening quote = if quote == byte "\"" then 8220 else 8216

abbrev pub closing : ℕ → ℕ
closing quote = if quote == byte "\"" then 8221 else 8217

abbrev pub both_opening : ℕ → ℕ → List ℕ
both_opening first second = opening first ∷ opening second ∷ []

-- a character that stays, escaped for HTML
abbrev pub plain : ℕ → List ℕ
plain c = if c == byte ">" then codes "&gt;" else c ∷ []

-- the characters that a mark at the start of a string is written as: those of the text, `—`, `–`, `…`, `»`, and a no-break space
abbrev pub mark_text : Mark → List ℕ → List ℕ
mark_text Plain text = plain (at text 0)
mark_text Opening text = opening (at text 0) ∷ []
mark_text Closing text = closing (at text 0) ∷ []
mark_text ThenOpening text = plain (at text 0) ++ (opening (at text 1) ∷ [])
mark_text ThenClosing text = plain (at text 0) ++ (closing (at text 1) ∷ [])
mark_text BothOpening text = both_opening (at text 0) (at text 1)
mark_text ThenBothOpening text = plain (at text 0) ++ both_opening (at text 1) (at text 2)
mark_text EmDash text = 8212 ∷ []
mark_text EnDash text = 8211 ∷ []
mark_text Ellipsis text = 8230 ∷ []
mark_text Guillemet text = 187 ∷ []
mark_text SpacedGuillemet text = 160 ∷ 187 ∷ []

-- what is written at the start of a string of which that many characters are taken already, and how many are taken after the first
abbrev pub written_at : ℕ → List ℕ → List ℕ
written_at taken text = if nat_lt 0 taken then [] else mark_text (mark_at text) text

abbrev pub taken_after : ℕ → List ℕ → ℕ
taken_after taken text = if nat_lt 0 taken then taken - 1 else more (mark_at text)

-- all that is written
abbrev pub smart : ℕ → List ℕ → List ℕ
smart taken [] = []
smart taken (c ∷ cs) = written_at taken (c ∷ cs) ++ smart (taken_after taken (c ∷ cs)) cs

-- a string that needs a reader of HTML
abbrev pub has_markup : List ℕ → Bool
has_markup text = list_any (λ b. list_any (λ mark. mark == b) (codes "<&\\\r")) text

-- the text in such typography, without a line feed at its end, if it needs no reader of HTML
abbrev pub smartened : List ℕ → Option (List ℕ)
smartened text = if has_markup text then None else Some (encode_utf8_all (smart 0 (chars (without_last (byte "\n") text))))
