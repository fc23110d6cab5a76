-- Line and column of a place, from the text before it.
use Rattle.std.specs.Prelude.{ℕ, ◌+◌, Bool, ◌||◌, ◌==◌, nat_lt, nat_le, List, count_by}
use Rattle.std.specs.List.{after_last}
use Rattle.std.specs.Str.{byte}

-- a character's first byte: the others are 128 to 191
abbrev pub begins_char : ℕ → Bool
begins_char b = nat_lt b 128 || nat_le 192 b

-- the line counts line feeds from 1, the column the characters of the last line from 1
abbrev pub line_and_column : List ℕ → ℕ × ℕ
line_and_column front = (1 + count_by (λ b. b == byte "\n") front, 1 + count_by begins_char (after_last (λ b. b == byte "\n") front))
