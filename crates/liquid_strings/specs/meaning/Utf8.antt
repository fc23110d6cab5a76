-- Bytes as a string.
use Rattle.std.specs.Prelude.{ℕ, List, Option, Some, None, cond}
use Rattle.std.specs.Str.{is_utf8}

-- the bytes themselves, if they are UTF-8
abbrev pub text_of_bytes : List ℕ → Option (List ℕ)
text_of_bytes bytes = cond (is_utf8 bytes) (Some bytes) None
