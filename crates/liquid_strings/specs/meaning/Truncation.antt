-- Parts of a string by counts of characters or words.
use Rattle.std.specs.Prelude.{ℕ, ℤ, Bool, pos, negsuc, ◌-◌, ◌==◌, ◌&&◌, ◌||◌, not}
use Rattle.std.specs.Prelude.{List, ◌++◌, chars, codes, cond, encode_utf8_all, length, max, nat_le, nat_lt, take}
use Rattle.std.specs.List.{join_by}
use Rattle.std.specs.Str.{trim_end}
use Rattle.liquid_strings.specs.meaning.Split.{words}

-- the string if it has at most that many characters, otherwise its first ones and the ending, with that many in all if
-- the ending has no more
abbrev pub truncated : ℤ → List ℕ → List ℕ → List ℕ
truncated (pos n) ending text =
    cond (nat_le (length (chars text)) n) text (encode_utf8_all (take (n - length (chars ending)) (chars text)) ++ ending)
truncated (negsuc n) ending text = ending

-- whether anything follows the word at that count, even whitespace
abbrev pub goes_on : ℕ → List ℕ → Bool
goes_on n text = nat_lt n (length (words text)) || (length (words text) == n && not (length (trim_end text) == length text))

-- the string if nothing follows the word at that count, which is at least 1, otherwise the words up to it and the ending
abbrev pub truncated_at : ℕ → List ℕ → List ℕ → List ℕ
truncated_at n ending text = cond (goes_on n text) (join_by (λ word. word) (codes " ") (take n (words text)) ++ ending) text

abbrev pub truncated_words : ℤ → List ℕ → List ℕ → List ℕ
truncated_words (pos n) ending text = truncated_at (max n 1) ending text
truncated_words (negsuc n) ending text = truncated_at 1 ending text
