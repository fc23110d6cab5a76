-- Whitespace at the ends of a string.
use Rattle.std.specs.Prelude.{ℕ, ◌-◌, List, drop, length, reverse, take}
use Rattle.std.specs.List.{prefix_len}
use Rattle.liquid_jekyll.specs.meaning.text.CharacterSets.{is_space}

-- the text without whitespace at its start
abbrev pub without_leading : List ℕ → List ℕ
without_leading text = drop (prefix_len is_space text) text

-- .. and at its end
abbrev pub without_trailing : List ℕ → List ℕ
without_trailing text = take (length text - prefix_len is_space (reverse text)) text

-- the text without whitespace at its ends
abbrev pub stripped : List ℕ → List ℕ
stripped text = without_trailing (without_leading text)
