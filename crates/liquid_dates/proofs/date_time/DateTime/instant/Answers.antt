use Rattle.std.proofs.Common.{arith, ◌≡◌}
use Rattle.jiff_core.specs.DateTime.{civil_nanos}
use Rattle.jiff_core.specs.Timestamp.{nanos_of_seconds}
use Rattle.jiff_core.proofs.SignedLemmas.{signed_arith}
use Rattle.liquid_dates.proofs.InstantLemmas.{instant_is}
use Rattle.liquid_dates.proofs.date_time.DateTime.instant.Goals as goal

pub returns-clause-value : goal.returns-clause-value
returns-clause-value c =
    let local : c.to_nanosecond.result ≡ civil_nanos c.args.self.local = cc in
    let offset : c.to_nanosecond-2.result ≡ nanos_of_seconds c.args.self.offset.seconds = cc in
    omega (arith, signed_arith, instant_is c.args.self)
