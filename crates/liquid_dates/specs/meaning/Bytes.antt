-- The names of the bytes that dates and patterns are written with.
use Rattle.std.specs.Prelude.{ℕ}
use Rattle.std.specs.Str.{byte}

abbrev pub space : ℕ
space = byte " "

abbrev pub percent : ℕ
percent = byte "%"

abbrev pub plus : ℕ
plus = byte "+"

abbrev pub dash : ℕ
dash = byte "-"

abbrev pub dot : ℕ
dot = byte "."

abbrev pub slash : ℕ
slash = byte "/"

abbrev pub colon : ℕ
colon = byte ":"
