-- The texts of errors.
use Rattle.std.specs.Prelude.{ℕ, List, codes}
use Rattle.liquid_dates.specs.declared.error.DateError.{DateError}
use Rattle.liquid_dates.specs.declared.error.DateError.TheVariants.{PartOutOfRange, OutsideYears, NoRfc2822Form, Memory as NoMemory}
use Rattle.liquid_dates.specs.declared.error.DateFormatError.{DateFormatError}
use Rattle.liquid_dates.specs.declared.error.DateFormatError.TheVariants.{
  NoFormatSpecifier,
  NoFormatSpecifierAfterModifier,
  InvalidWidth,
  Memory,
}

-- what `{}` writes for an error of a date
abbrev pub date_error_text : DateError → List ℕ
date_error_text PartOutOfRange = codes "part out of range"
date_error_text OutsideYears = codes "result outside the years"
date_error_text NoRfc2822Form = codes "no RFC 2822 form"
date_error_text NoMemory = codes "out of memory"

-- what `{}` writes for an error of a pattern
abbrev pub date_format_error_text : DateFormatError → List ℕ
date_format_error_text NoFormatSpecifier = codes "no format specifier following '%'"
date_format_error_text NoFormatSpecifierAfterModifier =
    codes "no format specifier following '%' with a format modifier"
date_format_error_text InvalidWidth =
    codes "failed to parse padding width: number too large to fit in target type"
date_format_error_text Memory = codes "out of memory"
