-- An instant is the civil nanoseconds less the offset's.
use Rattle.std.proofs.Common.{◌≡◌, refl, arith, ◌-ℤ◌}
use Rattle.jiff_core.specs.DateTime.{civil_nanos, civil_seconds}
use Rattle.jiff_core.specs.Timestamp.{nanos_of_seconds}
use Rattle.jiff_core.proofs.DateTimeLemmas.{civil_nanos-parts}
use Rattle.jiff_core.proofs.SignedLemmas.{signed_arith}
use Rattle.liquid_dates.specs.declared.date_time.DateTime.{DateTime}
use Rattle.liquid_dates.specs.meaning.Instant.{instant, unix_seconds}

pub instant_is : (dt : DateTime) → instant dt ≡ civil_nanos dt.local -ℤ nanos_of_seconds dt.offset.seconds
unfolding instant unix_seconds
instant_is dt = omega (arith, signed_arith, civil_nanos-parts dt.local)

-- and its whole seconds are the civil seconds less the offset
pub unix_seconds_is : (dt : DateTime) → unix_seconds dt ≡ civil_seconds dt.local -ℤ dt.offset.seconds
unfolding unix_seconds civil_seconds
unix_seconds_is dt = refl
