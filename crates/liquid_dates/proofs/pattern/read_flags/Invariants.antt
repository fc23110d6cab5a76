use Rattle.std.proofs.Common.{◌≡◌, length}
use Rattle.std.specs.Str.{chars, IsUtf8}
use Rattle.liquid_dates.specs.meaning.Flags.{is_flag, no_flags}
use Rattle.liquid_dates.specs.steps.PatternReader.{flags_from, following}
use Rattle.liquid_dates.proofs.pattern.read_flags.Given as goal

abbrev pub invariant-flags : goal.invariant-flags
invariant-flags l =
    (flags_from l.flags (chars l.rest) ≡ flags_from no_flags (chars l.text))
    × (following is_flag (chars l.rest) ≡ following is_flag (chars l.text))
    × IsUtf8 l.rest

abbrev pub decreases-flags : goal.decreases-flags
decreases-flags l = length l.rest
