-- What a scalar means, its texts, the name of its kind, and the numbers and booleans that it converts to.
use Rattle.std.specs.Prelude.{ℕ, ℤ, ◌-◌, ◌^◌, List, ◌++◌, Bool, ◌&&◌, Option, None, Some, nat_lt, nat_le, length, codes, if◌then◌else◌}
use Rattle.std.specs.Fmt.{signed_decimal}
use Rattle.std.specs.Str.{all_ascii_digits}
use Rattle.std.specs.Str.Parse.{digits_value, signed_digits_value, starts_with_minus, without_leading_sign}
use Rattle.jiff_core.specs.declared.civil.date.Date.{Date as CivilDate}
use Rattle.liquid_dates.specs.declared.date_time.DateTime.{DateTime}
use Rattle.liquid_dates.specs.meaning.Printed.{date_text, date_time_text}
use Rattle.liquid_scalar.specs.declared.scalar.ScalarOf.{ScalarOf}
use Rattle.liquid_scalar.specs.declared.scalar.ScalarOf.TheVariants as scalar_of

-- a scalar: an integer, a boolean, a string by its bytes, a day of the calendar, or a civil time with its offset
pub data Scal : Type 0 where
  integer : ℤ → Scal
  boolean : Bool → Scal
  text : List ℕ → Scal
  date : CivilDate → Scal
  date_time : DateTime → Scal

-- what a scalar means, given what its texts mean
abbrev pub scal : {T : Type 0} → (T → List ℕ) → ScalarOf T → Scal
scal f (scalar_of.Integer n) = integer n
scal f (scalar_of.Bool b) = boolean b
scal f (scalar_of.Str t) = text (f t)
scal f (scalar_of.Date d) = date d
scal f (scalar_of.DateTime dt) = date_time dt

-- `true` or `false`
abbrev pub boolean_text : Bool → List ℕ
boolean_text b = if b then codes "true" else codes "false"

-- a number renders in decimal, a boolean as its word, a string as it is, a date and a date time in their printed form
abbrev pub render_scalar : Scal → List ℕ
render_scalar (integer n) = signed_decimal n
render_scalar (boolean b) = boolean_text b
render_scalar (text bytes) = bytes
render_scalar (date d) = date_text d
render_scalar (date_time dt) = date_time_text dt

-- the source of a string is the text between double quotes, unescaped; the source of any other scalar is what it renders
-- as
abbrev pub source_scalar : Scal → List ℕ
source_scalar (integer n) = signed_decimal n
source_scalar (boolean b) = boolean_text b
source_scalar (text bytes) = codes "\"" ++ (bytes ++ codes "\"")
source_scalar (date d) = date_text d
source_scalar (date_time dt) = date_time_text dt

-- the name of the scalar's kind
abbrev pub scalar_type_name : Scal → List ℕ
scalar_type_name (integer n) = codes "whole number"
scalar_type_name (boolean b) = codes "boolean"
scalar_type_name (text bytes) = codes "string"
scalar_type_name (date d) = codes "date"
scalar_type_name (date_time dt) = codes "date time"

-- the greatest number that the digits of a numeral may write, so that with its sign it is from -2^63 to 2^63 - 1
abbrev pub greatest_magnitude : List ℕ → ℕ
greatest_magnitude bytes = if starts_with_minus bytes then 2 ^ 63 else 2 ^ 63 - 1

-- an optional sign, one digit or more, and a number in range
abbrev pub is_whole_number : List ℕ → Bool
is_whole_number bytes = nat_lt 0 (length (without_leading_sign bytes)) &&
    (all_ascii_digits (without_leading_sign bytes) && nat_le (digits_value 10 (without_leading_sign bytes)) (greatest_magnitude bytes))

-- the integer that a string writes, if it writes one
abbrev pub whole_number_of_text : List ℕ → Option ℤ
whole_number_of_text bytes = if is_whole_number bytes then Some (signed_digits_value 10 bytes) else None

-- a number is itself, a string is the integer that it writes, and the other kinds have no number
abbrev pub to_integer : Scal → Option ℤ
to_integer (integer n) = Some n
to_integer (boolean b) = None
to_integer (text bytes) = whole_number_of_text bytes
to_integer (date d) = None
to_integer (date_time dt) = None

-- only a boolean has one
abbrev pub to_bool : Scal → Option Bool
to_bool (integer n) = None
to_bool (boolean b) = Some b
to_bool (text bytes) = None
to_bool (date d) = None
to_bool (date_time dt) = None
