-- A text in two parts.
use Rattle.std.specs.Prelude.{ℕ, ◌+◌, ◌-◌, Bool, not, ◌&&◌, ◌||◌, ◌==◌, nat_lt, List, [], ◌∷◌, Option, Some, None}
use Rattle.std.specs.Prelude.{codes, drop, length, option_map, slice_index, take, if◌then◌else◌}
use Rattle.std.specs.Char.{is_ascii_alphabetic, is_ascii_digit}
use Rattle.std.specs.List.{prefix_len, suffix_len}
use Rattle.std.specs.Str.{byte}
use Rattle.memchr.specs.Find.{first_of, matches}

abbrev pub Parts : Type 0
Parts = List ℕ × List ℕ

-- ASCII's whitespace: space, tab, line feed, vertical tab, form feed and carriage return
abbrev pub is_white : ℕ → Bool
is_white b = b == byte " " || (not (nat_lt b 9) && nat_lt b 14)

-- the whitespace in a line that doesn't end it
abbrev pub is_blank : ℕ → Bool
is_blank b = b == byte " " || b == byte "\t"

-- a letter, a digit or `_`
abbrev pub is_word : ℕ → Bool
is_word b = (is_ascii_alphabetic b || is_ascii_digit b) || b == byte "_"

abbrev pub is_quote : ℕ → Bool
is_quote b = b == byte "\"" || b == byte "'"

-- the text up to that place, and from there on
abbrev pub split_at : ℕ → List ℕ → Parts
split_at n text = (take n text, drop n text)

-- what is at the start, as far as it passes a test, and the rest
abbrev pub split_run : (ℕ → Bool) → List ℕ → Parts
split_run test text = split_at (prefix_len test text) text

-- the text without what is at its end, as far as that passes a test, and that
abbrev pub split_end_run : (ℕ → Bool) → List ℕ → Parts
split_end_run test text = split_at (length text - suffix_len test text) text

-- a dash at the start, if there is one, and the rest
abbrev pub dash_len : List ℕ → ℕ
dash_len text = if slice_index text 0 == byte "-" then 1 else 0

abbrev pub split_dash : List ℕ → Parts
split_dash text = split_at (dash_len text) text

-- the text without a dash at its end, if there is one, and that dash
abbrev pub end_dash_len : List ℕ → ℕ
end_dash_len text = if slice_index text (length text - 1) == byte "-" then 1 else 0

abbrev pub split_end_dash : List ℕ → Parts
split_end_dash text = split_at (length text - end_dash_len text) text

-- what follows `{` and another byte, if the text begins with them
abbrev pub after_opener : ℕ → List ℕ → Option (List ℕ)
after_opener kind [] = None
after_opener kind (a ∷ []) = None
after_opener kind (a ∷ b ∷ bs) = if a == byte "{" && b == kind then Some bs else None

-- the text before the first place of something, and after it
abbrev pub split_around : List ℕ → List ℕ → Option Parts
split_around search text = option_map (λ at. (take at text, drop (at + length search) text)) (first_of (matches text search 0))
