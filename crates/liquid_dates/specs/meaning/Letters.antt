-- The letters of directives, and what each means.
use Rattle.std.specs.Prelude.{ℕ, ◌&&◌, if◌then◌else◌, List, [], ◌∷◌, Option, Some, None, option_map, codes}
use Rattle.liquid_dates.specs.meaning.Flags.{is_one_of}
use Rattle.liquid_dates.specs.declared.flags.NumberFilling.{NumberFilling}
use Rattle.liquid_dates.specs.declared.flags.NumberFilling.TheVariants.{SpacesBeforeSign, ZerosAfterSign}
use Rattle.liquid_dates.specs.declared.directive.Number.{Number}
use Rattle.liquid_dates.specs.declared.directive.Number.TheVariants.{
  Year,
  Century,
  YearOfCentury,
  Month,
  Day,
  Ordinal,
  Hour,
  HourOf12,
  Minute,
  Second,
  WeekdayFromMonday,
  WeekdayFromSunday,
  WeekFromSunday,
  WeekFromMonday,
  IsoYear,
  IsoYearOfCentury,
  IsoWeek,
  UnixSeconds,
}
use Rattle.liquid_dates.specs.declared.directive.Name.{Name}
use Rattle.liquid_dates.specs.declared.directive.Name.TheVariants.{
  ShortMonth,
  WholeMonth,
  ShortWeekday,
  WholeWeekday,
  UpperHalf,
  LowerHalf,
  LineFeed,
  Tab,
  Percent,
}
use Rattle.liquid_dates.specs.declared.directive.Composite.{Composite}
use Rattle.liquid_dates.specs.declared.directive.Composite.TheVariants.{
  DashedDate,
  NamedDate,
  HourMinute,
  SlashedDate,
  Clock,
  ClockOf12,
  DateAndTime,
}
use Rattle.liquid_dates.specs.declared.directive.Offset.TheVariants.{Joined, Minutes, Seconds}
use Rattle.liquid_dates.specs.declared.directive.Directive.{Directive}
use Rattle.liquid_dates.specs.declared.directive.Directive.TheVariants.{OfNumber, OfName, OfComposite, OfFraction, OfOffset}

-- the letters of numbers
unfoldable pub number_letter : ℕ → Option Number
number_letter c =
    if is_one_of (codes "Y") c then Some Year
    else (if is_one_of (codes "C") c then Some Century
    else (if is_one_of (codes "y") c then Some YearOfCentury
    else (if is_one_of (codes "m") c then Some Month
    else (if is_one_of (codes "de") c then Some Day
    else (if is_one_of (codes "j") c then Some Ordinal
    else (if is_one_of (codes "Hk") c then Some Hour
    else (if is_one_of (codes "Il") c then Some HourOf12
    else (if is_one_of (codes "M") c then Some Minute
    else (if is_one_of (codes "S") c then Some Second
    else (if is_one_of (codes "u") c then Some WeekdayFromMonday
    else (if is_one_of (codes "w") c then Some WeekdayFromSunday
    else (if is_one_of (codes "U") c then Some WeekFromSunday
    else (if is_one_of (codes "W") c then Some WeekFromMonday
    else (if is_one_of (codes "G") c then Some IsoYear
    else (if is_one_of (codes "g") c then Some IsoYearOfCentury
    else (if is_one_of (codes "V") c then Some IsoWeek
    else (if is_one_of (codes "s") c then Some UnixSeconds else None)))))))))))))))))

-- what pads a number if no flag says otherwise: spaces for `e`, `k` and `l`
abbrev pub letter_filling : ℕ → NumberFilling
letter_filling c =
    if is_one_of (codes "ekl") c then SpacesBeforeSign else ZerosAfterSign

-- the letters of names and of characters
unfoldable pub name_letter : ℕ → Option Name
name_letter c =
    if is_one_of (codes "bh") c then Some ShortMonth
    else (if is_one_of (codes "B") c then Some WholeMonth
    else (if is_one_of (codes "a") c then Some ShortWeekday
    else (if is_one_of (codes "A") c then Some WholeWeekday
    else (if is_one_of (codes "p") c then Some UpperHalf
    else (if is_one_of (codes "P") c then Some LowerHalf
    else (if is_one_of (codes "n") c then Some LineFeed
    else (if is_one_of (codes "t") c then Some Tab
    else (if is_one_of (codes "%") c then Some Percent else None))))))))

-- the letters of composites
unfoldable pub composite_letter : ℕ → Option Composite
composite_letter c =
    if is_one_of (codes "F") c then Some DashedDate
    else (if is_one_of (codes "v") c then Some NamedDate
    else (if is_one_of (codes "R") c then Some HourMinute
    else (if is_one_of (codes "Dx") c then Some SlashedDate
    else (if is_one_of (codes "TX") c then Some Clock
    else (if is_one_of (codes "r") c then Some ClockOf12
    else (if is_one_of (codes "c") c then Some DateAndTime else None))))))

-- the letters of fractions, with the number of digits that they print if no width is given, and of offsets
unfoldable pub fraction_letter : ℕ → Option Directive
fraction_letter c =
    if is_one_of (codes "L") c then Some (OfFraction 3)
    else (if is_one_of (codes "N") c then Some (OfFraction 9)
    else (if is_one_of (codes "z") c then Some (OfOffset Joined)
    else (if is_one_of (codes "Z") c then Some (OfOffset Minutes) else None)))

abbrev pub or_else : {A : Type 0} → Option A → Option A → Option A
or_else (Some a) other = Some a
or_else None other = other

-- the directive that a letter means, if it means any
unfoldable pub letter_directive : ℕ → Option Directive
letter_directive c =
    or_else (option_map (λ n. OfNumber n (letter_filling c)) (number_letter c))
    (or_else (option_map OfName (name_letter c))
    (or_else (option_map OfComposite (composite_letter c)) (fraction_letter c)))

-- the same, where `:z` and `::z` may take the place of a letter
unfoldable pub directive_of : List ℕ → Option Directive
directive_of (c ∷ []) = letter_directive c
directive_of (a ∷ b ∷ []) = if is_one_of (codes ":") a && is_one_of (codes "z") b then Some (OfOffset Minutes) else None
directive_of (a ∷ b ∷ c ∷ []) =
    if is_one_of (codes ":") a && (is_one_of (codes ":") b && is_one_of (codes "z") c) then Some (OfOffset Seconds) else None
directive_of _ = None
