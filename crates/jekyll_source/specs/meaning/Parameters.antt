-- Texts in the parameters of an inclusion. A backslash escapes the quote after it.
use Rattle.std.specs.Prelude.{
  ℕ,
  zero,
  suc,
  ◌+◌,
  Bool,
  true,
  false,
  not,
  ◌==◌,
  List,
  [],
  ◌∷◌,
  ◌++◌,
  Option,
  Some,
  None,
  drop,
  length,
  option_map,
}
use Rattle.std.specs.Prelude.{take, unwrap_or, if◌then◌else◌}
use Rattle.std.specs.Option.{option_map_or}
use Rattle.std.specs.Str.{byte}
use Rattle.liquid_strings.specs.meaning.Replace.{replaced}
use Rattle.jekyll_source.specs.meaning.Literals.{between, literal}
use Rattle.jekyll_source.specs.meaning.Splits.{Parts, is_quote, split_run}

-- the number of bytes before the quote that ends a text, perhaps after a backslash. The byte after it doesn't end the text
abbrev pub quoted_len : ℕ → Bool → List ℕ → Option ℕ
quoted_len quote escaped [] = None
quoted_len quote true (b ∷ bs) = option_map suc (quoted_len quote false bs)
quoted_len quote false (b ∷ bs) = if b == quote then Some 0 else option_map suc (quoted_len quote (b == byte "\\") bs)

-- what is before the quote that ends a text, and after it
abbrev pub split_quoted : ℕ → List ℕ → Option Parts
split_quoted quote text = option_map (λ n. (take n text, drop (n + 1) text)) (quoted_len quote false text)

-- without the backslashes before this quote
abbrev pub without_escapes : ℕ → List ℕ → List ℕ
without_escapes quote text = replaced (byte "\\" ∷ quote ∷ []) (quote ∷ []) text

-- the text without its escapes as a literal, or as it is if it has none
abbrev pub unescaped_text : ℕ → List ℕ → List ℕ
unescaped_text quote text = unwrap_or (literal quote (without_escapes quote text)) (between quote text)

abbrev pub from_quote : (List ℕ → List ℕ) → List ℕ → List ℕ
from_quote later [] = []
from_quote later (quote ∷ bs) =
    option_map_or (λ p. unescaped_text quote p.0 ++ later p.1) (split_quoted quote bs) (quote ∷ bs)

-- what is before the first quote, and from there on
abbrev pub split_at_quote : List ℕ → Parts
split_at_quote text = split_run (λ b. not (is_quote b)) text

-- that many texts, or all of them, without their escapes
abbrev pub unescaped_in : ℕ → List ℕ → List ℕ
unescaped_in zero text = []
unescaped_in (suc n) text =
    (split_at_quote text).0 ++ from_quote (λ rest. unescaped_in n rest) (split_at_quote text).1

abbrev pub unescaped : List ℕ → List ℕ
unescaped text = unescaped_in (length text) text
