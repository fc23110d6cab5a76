-- Quotes: which open and which close, by what stands around them.
use Rattle.std.specs.Prelude.{ℕ, Bool, not, ◌==◌, ◌&&◌, ◌||◌, List, get_or, codes, if◌then◌else◌}
use Rattle.std.specs.Bool.{beq}
use Rattle.std.specs.Char.{is_ascii_alphanumeric, is_ascii_digit, is_ascii_punctuation}
use Rattle.std.specs.List.{list_any}
use Rattle.std.specs.Str.{byte}
use Rattle.liquid_jekyll.specs.declared.text.quotes.Mark.{Mark}
use Rattle.liquid_jekyll.specs.declared.text.quotes.Mark.TheVariants.{
  Plain,
  Opening,
  Closing,
  ThenOpening,
  ThenClosing,
  BothOpening,
  ThenBothOpening,
  EmDash,
  EnDash,
  Ellipsis,
  Guillemet,
  SpacedGuillemet,
}
use Rattle.liquid_jekyll.specs.meaning.text.CharacterSets.{is_space, is_word}

-- how many characters a mark takes beside the first
abbrev pub more : Mark → ℕ
more Plain = 0
more Opening = 0
more Closing = 0
more ThenOpening = 1
more ThenClosing = 1
more BothOpening = 1
more ThenBothOpening = 2
more EmDash = 2
more EnDash = 1
more Ellipsis = 2
more Guillemet = 1
more SpacedGuillemet = 2

-- the character at a place; past the end a line feed
abbrev pub at : List ℕ → ℕ → ℕ
at text place = get_or text place (byte "\n")

abbrev pub is_quote : ℕ → Bool
is_quote c = c == byte "\"" || c == byte "'"

-- a letter, a digit or `_` of ASCII
abbrev pub is_ascii_word : ℕ → Bool
is_ascii_word c = is_ascii_alphanumeric c || c == byte "_"

-- a quote before emphasis: `_` or `*`, and no whitespace behind
abbrev pub opens_emphasis : List ℕ → Bool
opens_emphasis text = is_quote (at text 0) && ((at text 1 == byte "_" || at text 1 == byte "*") && not (is_space (at text 2)))

-- a quote before a mark of ASCII, behind which neither `..` nor the edge of a word is
abbrev pub is_before_mark : List ℕ → Bool
is_before_mark text =
    is_quote (at text 0) && (is_ascii_punctuation (at text 1)
    && (not (at text 2 == byte "." && at text 3 == byte ".") && beq (is_word (at text 1)) (is_word (at text 2))))

-- two different quotes before a letter, digit or `_` of ASCII
abbrev pub opens_pair : ℕ → ℕ → ℕ → Bool
opens_pair c d e = is_quote c && (is_quote d && (not (c == d) && is_ascii_word e))

-- the short name of a decade, such as `'80s`
abbrev pub is_decade : ℕ → ℕ → ℕ → ℕ → Bool
is_decade c d e f = c == byte "'" && (is_ascii_digit d && (is_ascii_digit e && f == byte "s"))

-- a character after which a quote closes
abbrev pub closes_after : ℕ → Bool
closes_after c = not (list_any (λ mark. mark == c) (codes " \\\t\r\n[{(-"))

-- what ends the word before a quote: whitespace, or `s` as a whole word
abbrev pub ends_word : ℕ → ℕ → Bool
ends_word c d = is_space c || (c == byte "s" && not (is_word d))

-- the mark of a string in which one of the first two characters is a quote, where no two quotes open together
abbrev pub single_mark : List ℕ → Mark
single_mark text =
    if is_space (at text 0) && is_decade (at text 1) (at text 2) (at text 3) (at text 4) then ThenClosing
    else if is_decade (at text 0) (at text 1) (at text 2) (at text 3) then Closing
    else if is_space (at text 0) && (is_quote (at text 1) && is_ascii_word (at text 2)) then ThenOpening
    else if closes_after (at text 0) && is_quote (at text 1) then ThenClosing
    else if is_quote (at text 0) && ends_word (at text 1) (at text 2) then Closing
    else if is_quote (at text 1) then ThenOpening
    else Opening

-- the same everywhere
abbrev pub quote_mark : List ℕ → Mark
quote_mark text =
    if opens_emphasis text then Opening
    else if is_before_mark text then Closing
    else if is_space (at text 0) && opens_pair (at text 1) (at text 2) (at text 3) then ThenBothOpening
    else if opens_pair (at text 0) (at text 1) (at text 2) then BothOpening
    else single_mark text
