-- The names of months and weekdays in texts.
use Rattle.std.specs.Prelude.{ℕ, zero, suc, ◌+◌, ◌&&◌, Bool, nat_le, if◌then◌else◌, List, length, map, Option, Some, None, take}
use Rattle.std.specs.Char.{to_ascii_lowercase}
use Rattle.std.specs.Str.{bytes_eq}
use Rattle.liquid_dates.specs.meaning.Names.{month_name, weekday_name}

-- whether a word is the name, or its beginning of three letters or more, in any case
abbrev pub is_name : List ℕ → List ℕ → Bool
is_name name word =
    nat_le 3 (length word) && (nat_le (length word) (length name)
    && bytes_eq (map to_ascii_lowercase word) (map to_ascii_lowercase (take (length word) name)))

-- the first of so many numbers, from one on, whose name a word is
abbrev pub first_named : (ℕ → List ℕ) → List ℕ → ℕ → ℕ → Option ℕ
first_named name word zero number = None
first_named name word (suc count) number = if is_name (name number) word then Some number else first_named name word count (number + 1)

-- the month that a word names, from 1
abbrev pub month_named : List ℕ → Option ℕ
month_named word = first_named month_name word 12 1

-- the weekday that a word names, from 0 for Monday
abbrev pub weekday_named : List ℕ → Option ℕ
weekday_named word = first_named weekday_name word 7 0
