-- The decimal that a string writes.
use Rattle.std.specs.Prelude.{ℕ, ◌+◌, List, ◌++◌, Bool, ◌&&◌, ◌==◌, Option, Some, None, nat_lt, length, take, drop, if◌then◌else◌}
use Rattle.std.specs.List.{position}
use Rattle.std.specs.Str.{all_ascii_digits}
use Rattle.std.specs.Str.Parse.{digits_value, starts_with_minus}
use Rattle.liquid_decimals.specs.meaning.Dec.{Dec, limited, signed}

-- one digit or more
abbrev pub is_numeral : List ℕ → Bool
is_numeral ds = nat_lt 0 (length ds) && all_ascii_digits ds

-- where a string has its first point
abbrev pub point : List ℕ → Option ℕ
point bytes = position (λ c. c == 46) bytes

-- the decimal of a sign, the digits before a point and those after it
abbrev pub decimal_of_parts : Bool → List ℕ → List ℕ → Option Dec
decimal_of_parts minus whole fraction =
    if is_numeral whole && is_numeral fraction then limited (signed minus (digits_value 10 (whole ++ fraction))) (length fraction) else None

-- the decimal of a sign and digits without a point
abbrev pub decimal_of_whole : Bool → List ℕ → Option Dec
decimal_of_whole minus whole = if is_numeral whole then limited (signed minus (digits_value 10 whole)) 0 else None

-- the decimal of a sign and an unsigned text, which has its first point there
abbrev pub decimal_around : Bool → List ℕ → Option ℕ → Option Dec
decimal_around minus bytes None = decimal_of_whole minus bytes
decimal_around minus bytes (Some p) = decimal_of_parts minus (take p bytes) (drop (p + 1) bytes)

-- a string without its minus
abbrev pub without_minus : List ℕ → List ℕ
without_minus bytes = if starts_with_minus bytes then drop 1 bytes else bytes

-- the decimal that a string writes: a minus or none, digits, and, if there is a point, digits after it
abbrev pub decimal_of_text : List ℕ → Option Dec
decimal_of_text bytes = decimal_around (starts_with_minus bytes) (without_minus bytes) (point (without_minus bytes))
