-- Latin letters as letters of ASCII.
use Rattle.std.specs.Prelude.{ℕ, ◌-◌, ◌==◌, ◌||◌, nat_lt, List, [], ◌∷◌, ◌++◌, Option, None, Some, codes, get_or, if◌then◌else◌}
use Rattle.std.specs.Str.{byte}

-- the first letter in ASCII of each character from U+00C0 to U+017E
abbrev pub latin : List ℕ
latin =
    codes "AAAAAAACEEEEIIIIDNOOOOOxOUUUUYTsaaaaaaaceeeeiiiidnooooo?ouuuuytyAaAaAaCcCcCcCcDdDdEeEeEeEeEeGgGg"
    ++ codes "GgGgHhHhIiIiIiIiIiIiJjKkkLlLlLlLlLlNnNnNn'NnOoOoOoOoRrRrRrSsSsSsSsTtTtTtUuUuUuUuUuUuWwYyYZzZzZz"

-- the second letter of ÆŒ, Þþ, ß, æœ, Ĳ, ĳ, ŉ, Ŋ, ŋ
abbrev pub second_letter : ℕ → Option ℕ
second_letter c =
    if c == 198 || c == 338 then Some (byte "E")
    else if c == 222 || c == 254 then Some (byte "h")
    else if c == 223 then Some (byte "s")
    else if c == 230 || c == 339 then Some (byte "e")
    else if c == 306 then Some (byte "J")
    else if c == 307 then Some (byte "j")
    else if c == 329 then Some (byte "n")
    else if c == 330 then Some (byte "G")
    else if c == 331 then Some (byte "g")
    else None

abbrev pub and_second : ℕ → Option ℕ → List ℕ
and_second first None = first ∷ []
and_second first (Some second) = first ∷ second ∷ []

-- a character in ASCII: itself, its letters, or a question mark
abbrev pub ascii_of : ℕ → List ℕ
ascii_of c =
    if nat_lt c 128 then c ∷ []
    else if nat_lt c 192 then byte "?" ∷ []
    else and_second (get_or latin (c - 192) (byte "?")) (second_letter c)
