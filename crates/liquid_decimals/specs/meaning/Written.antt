-- The texts of decimals.
use Rattle.std.specs.Prelude.{
  ℕ,
  zero,
  suc,
  ◌+◌,
  ◌/◌,
  ◌%◌,
  ◌^◌,
  List,
  [],
  ◌∷◌,
  ◌++◌,
  ◌==◌,
  ◌&&◌,
  nat_lt,
  codes,
  decimal,
  length,
  unsigned_abs,
  if◌then◌else◌,
}
use Rattle.std.specs.Int.{is_negative}
use Rattle.liquid_decimals.specs.meaning.Dec.{Dec}

-- a minus before a number below 0
abbrev pub minus_sign : Dec → List ℕ
minus_sign d = if is_negative d.0 then codes "-" else []

-- the last digits of a number, as many as the count says: the digit at place k counts 10^k
abbrev pub places : ℕ → ℕ → List ℕ
places zero n = []
places (suc k) n = (48 + n / 10 ^ k % 10) ∷ places k n

-- a point and the digits after it, or nothing if there are none
abbrev pub point_and_places : List ℕ → ℕ → ℕ → List ℕ
point_and_places point scale n = if nat_lt 0 scale then point ++ places scale n else []

-- the separator, if the digits that are left make up whole groups of three
abbrev pub separator_before : List ℕ → ℕ → List ℕ
separator_before separator left = if nat_lt 0 left && (left % 3 == 0) then separator else []

-- digits with a separator between each three, counted from the end
abbrev pub grouped : List ℕ → List ℕ → List ℕ
grouped separator [] = []
grouped separator (c ∷ cs) = c ∷ (separator_before separator (length cs) ++ grouped separator cs)

-- the text of a decimal: a minus if it is below 0, at least one digit, and, after a point, as many digits as the scale says
abbrev pub written : Dec → List ℕ
written d = minus_sign d ++ decimal (unsigned_abs d.0 / 10 ^ d.1) ++ point_and_places (codes ".") d.1 (unsigned_abs d.0)

-- the text with this point, and with a separator between each three digits before it
abbrev pub styled : List ℕ → List ℕ → Dec → List ℕ
styled point separator d =
    minus_sign d ++ grouped separator (decimal (unsigned_abs d.0 / 10 ^ d.1)) ++ point_and_places point d.1 (unsigned_abs d.0)
