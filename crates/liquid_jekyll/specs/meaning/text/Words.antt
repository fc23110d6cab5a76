-- Whitespace and words.
use Rattle.std.specs.Prelude.{ℕ, ◌+◌, ◌==◌, List, chars, count_by, encode_utf8_all, if◌then◌else◌}
use Rattle.std.specs.Str.{byte}
use Rattle.liquid_jekyll.specs.declared.text.character_sets.CharacterSet.TheVariants.{Printed, Western, WhiteSpace}
use Rattle.liquid_jekyll.specs.declared.text.words.WordMode.{WordMode}
use Rattle.liquid_jekyll.specs.declared.text.words.WordMode.TheVariants.{Spaced, Mixed, Auto}
use Rattle.liquid_jekyll.specs.meaning.text.CharacterSets.{contains, is_east_asian}
use Rattle.liquid_jekyll.specs.meaning.text.Runs.{run_count, with_runs_as, without_ends}

-- each run of whitespace as one space, and none at the ends
abbrev pub normalized : List ℕ → List ℕ
normalized text = without_ends (byte " ") (encode_utf8_all (with_runs_as (contains WhiteSpace) (byte " ") (chars text)))

-- the runs without whitespace
abbrev pub spaced_words : List ℕ → ℕ
spaced_words text = run_count (contains Printed) (chars text)

-- the characters of scripts that write no spaces between words
abbrev pub east_asian_count : List ℕ → ℕ
east_asian_count text = count_by is_east_asian (chars text)

-- these, and the runs between them and whitespace
abbrev pub mixed_words : List ℕ → ℕ
mixed_words text = east_asian_count text + run_count (contains Western) (chars text)

abbrev pub word_count : WordMode → List ℕ → ℕ
word_count Spaced text = spaced_words text
word_count Mixed text = mixed_words text
word_count Auto text = if east_asian_count text == 0 then spaced_words text else mixed_words text
