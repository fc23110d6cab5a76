use Rattle.std.proofs.Common.{arith, ◌≡◌}
use Rattle.jiff_core.specs.Timestamp.{nanos_of_seconds}
use Rattle.jiff_core.proofs.SignedLemmas.{signed_arith}
use Rattle.liquid_dates.specs.meaning.Instant.{instant}
use Rattle.liquid_dates.proofs.UnixTimeLemmas.{unix_found, unix_range}
use Rattle.filter_dates.proofs.moments.at_unix_seconds.Goals as goal

pub returns-in-Ok-clause-found : goal.returns-in-Ok-clause-found
returns-in-Ok-clause-found c =
    let at : instant c.in-Ok.date_time ≡ nanos_of_seconds c.args.seconds =
    omega (
      arith,
      signed_arith,
      c.in-Ok.ensures.instant,
      c.in_nanoseconds-nanoseconds.ensures.value,
      c.in_nanoseconds-nanoseconds.ensures.bound,
    ) in
    unix_found c.in-Ok.date_time c.args.seconds at c.in-Ok.ensures.offset

pub returns-in-Err-clause-none : goal.returns-in-Err-clause-none
returns-in-Err-clause-none c = λ dt h.
    let range = unix_range dt c.args.seconds h in
    let fails =
    c.in-Err.ensures.succeeds.1 (
      omega (
        arith,
        signed_arith,
        range.0,
        c.in_nanoseconds-nanoseconds.ensures.value,
        c.in_nanoseconds-nanoseconds.ensures.bound,
      ),
      omega (
        arith,
        signed_arith,
        range.1,
        c.in_nanoseconds-nanoseconds.ensures.value,
        c.in_nanoseconds-nanoseconds.ensures.bound,
      ),
    ) in
    cc
