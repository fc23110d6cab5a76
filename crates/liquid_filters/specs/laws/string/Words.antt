-- A law of texts that are cut to a number of words.
use Rattle.std.specs.Prelude.{◌≡◌, ℕ, ℤ, pos, negsuc, List, [], max, take}
use Rattle.liquid_strings.specs.meaning.Truncation.{truncated_words}
use Rattle.liquid_strings.specs.meaning.Split.{words}

-- the number of words that a string is cut to, which is at least 1
abbrev pub word_limit : ℤ → ℕ
word_limit (pos n) = max n 1
word_limit (negsuc n) = 1

-- with nothing put at its end, a string that is cut to a number of words has the first words of the text
abbrev pub FirstWordsAreKept : ℤ → List ℕ → Type 0
FirstWordsAreKept count text = words (truncated_words count [] text) ≡ take (word_limit count) (words text)
