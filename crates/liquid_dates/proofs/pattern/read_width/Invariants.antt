use Rattle.std.proofs.Common.{◌≡◌, length}
use Rattle.std.specs.Str.{chars, IsUtf8}
use Rattle.liquid_dates.specs.declared.pattern.Width.TheVariants.{Unset}
use Rattle.liquid_dates.specs.meaning.Flags.{is_digit}
use Rattle.liquid_dates.specs.steps.PatternReader.{width_from, following}
use Rattle.liquid_dates.proofs.pattern.read_width.Given as goal

abbrev pub invariant-digits : goal.invariant-digits
invariant-digits l =
    (width_from l.width (chars l.rest) ≡ width_from Unset (chars l.text))
    × (following is_digit (chars l.rest) ≡ following is_digit (chars l.text))
    × IsUtf8 l.rest

abbrev pub decreases-digits : goal.decreases-digits
decreases-digits l = length l.rest
