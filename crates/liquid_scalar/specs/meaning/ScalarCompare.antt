-- How scalars compare: loosely, as templates do, and strictly, as values do.
use Rattle.std.specs.Prelude.{ℕ, ℤ, pos, ◌+ℤ◌, ◌-ℤ◌, ◌*ℤ◌, List, ◌++◌, Bool, false, Option, None, Some, nat_eq}
use Rattle.std.specs.Bool.{beq}
use Rattle.std.specs.declared.cmp.Ordering.{Ordering}
use Rattle.std.specs.Ordering.{int_eq, int_cmp, bool_cmp, nat_cmp}
use Rattle.std.specs.Cmp.Lexicographic.{pointwise, slice_cmp}
use Rattle.std.specs.Hash as writes
use Rattle.jiff_core.specs.declared.civil.date.Date.{Date as CivilDate}
use Rattle.jiff_core.specs.Date.{epoch_day}
use Rattle.liquid_dates.specs.declared.date_time.DateTime.{DateTime}
use Rattle.liquid_dates.specs.meaning.Instant.{day_number, second_of_day, offset_seconds, nanosecond, instant}
use Rattle.liquid_scalar.specs.meaning.Scalar.{Scal, integer, boolean, text, date, date_time}

-- the instant of the date time moved to the date, at its own time of day and offset
abbrev pub instant_on : CivilDate → DateTime → ℤ
instant_on d dt = ((epoch_day d *ℤ pos 86_400 +ℤ pos (second_of_day dt)) -ℤ offset_seconds dt) *ℤ pos 1_000_000_000 +ℤ pos (nanosecond dt)

-- loose equality: scalars of one kind by value, dates by their day and date times by their instant; a date equals a
-- date time if it is the date time's own date; a boolean and a scalar of another kind are equal if the boolean
-- is true; all others are unequal
abbrev pub scalar_eq : Scal → Scal → Bool
scalar_eq (integer a) (integer b) = int_eq a b
scalar_eq (boolean a) (boolean b) = beq a b
scalar_eq (text a) (text b) = pointwise nat_eq a b
scalar_eq (date a) (date b) = int_eq (epoch_day a) (epoch_day b)
scalar_eq (date_time a) (date_time b) = int_eq (instant a) (instant b)
scalar_eq (date a) (date_time b) = int_eq (epoch_day a) (day_number b)
scalar_eq (date_time a) (date b) = int_eq (day_number a) (epoch_day b)
scalar_eq (boolean a) other = a
scalar_eq other (boolean b) = b
scalar_eq a b = false

-- loose order: scalars of one kind by their order, false below true, texts by bytes, dates by their day, date times by
-- their instant; a date and a date time compare as the date time moved to that date and the date time itself, each on
-- its own side; other pairs have no order
abbrev pub scalar_cmp : Scal → Scal → Option Ordering
scalar_cmp (integer a) (integer b) = Some (int_cmp a b)
scalar_cmp (boolean a) (boolean b) = Some (bool_cmp a b)
scalar_cmp (text a) (text b) = Some (slice_cmp nat_cmp a b)
scalar_cmp (date a) (date b) = Some (int_cmp (epoch_day a) (epoch_day b))
scalar_cmp (date_time a) (date_time b) = Some (int_cmp (instant a) (instant b))
scalar_cmp (date a) (date_time b) = Some (int_cmp (instant_on a b) (instant b))
scalar_cmp (date_time a) (date b) = Some (int_cmp (instant a) (instant_on b a))
scalar_cmp a b = None

-- strict equality: the same kind and the same content, date times by their instant
abbrev pub same_scalar : Scal → Scal → Bool
same_scalar (integer a) (integer b) = int_eq a b
same_scalar (boolean a) (boolean b) = beq a b
same_scalar (text a) (text b) = pointwise nat_eq a b
same_scalar (date a) (date b) = int_eq (epoch_day a) (epoch_day b)
same_scalar (date_time a) (date_time b) = int_eq (instant a) (instant b)
same_scalar a b = false

-- what a scalar feeds a hasher: a byte for its kind, then its content
abbrev pub scalar_hash : Scal → List (List ℕ)
scalar_hash (integer n) = writes.u8 0 ++ writes.i64 n
scalar_hash (boolean b) = writes.u8 1 ++ writes.bool b
scalar_hash (text bytes) = writes.u8 2 ++ writes.str bytes
scalar_hash (date d) = writes.u8 3 ++ writes.i32 (epoch_day d)
scalar_hash (date_time dt) = writes.u8 4 ++ writes.i128 (instant dt)
