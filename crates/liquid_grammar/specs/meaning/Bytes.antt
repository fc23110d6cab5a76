-- The bytes of the grammar that have names, and its classes of bytes. Letters and digits are those of ASCII, so a byte of
-- a longer character is in no class.
use Rattle.std.specs.Prelude.{ℕ, Bool, ◌||◌, ◌==◌}
use Rattle.std.specs.Char.{is_ascii_alphabetic, is_ascii_digit}
use Rattle.std.specs.Str.{byte}

abbrev pub double_quote : ℕ
double_quote = byte "\""

abbrev pub percent : ℕ
percent = byte "%"

abbrev pub single_quote : ℕ
single_quote = byte "'"

abbrev pub open_paren : ℕ
open_paren = byte "("

abbrev pub close_paren : ℕ
close_paren = byte ")"

abbrev pub plus : ℕ
plus = byte "+"

abbrev pub comma : ℕ
comma = byte ","

abbrev pub dash : ℕ
dash = byte "-"

abbrev pub dot : ℕ
dot = byte "."

abbrev pub colon : ℕ
colon = byte ":"

abbrev pub open_square : ℕ
open_square = byte "["

abbrev pub close_square : ℕ
close_square = byte "]"

abbrev pub open_brace : ℕ
open_brace = byte "{"

abbrev pub bar : ℕ
bar = byte "|"

abbrev pub close_brace : ℕ
close_brace = byte "}"

-- space, tab, carriage return or line feed
abbrev pub is_white : ℕ → Bool
is_white b = ((b == byte " " || b == byte "\t") || b == byte "\r") || b == byte "\n"

-- a letter or `_`
abbrev pub starts_name : ℕ → Bool
starts_name b = is_ascii_alphabetic b || b == byte "_"

-- a letter, a digit or `_`
abbrev pub is_word : ℕ → Bool
is_word b = (is_ascii_alphabetic b || is_ascii_digit b) || b == byte "_"
