use Rattle.std.proofs.Common.{arith, ◌≡◌}
use Rattle.jiff_core.specs.DateTime.{civil_seconds}
use Rattle.jiff_core.proofs.SignedLemmas.{signed_arith}
use Rattle.liquid_dates.proofs.InstantLemmas.{unix_seconds_is}
use Rattle.liquid_dates.proofs.date_time.DateTime.unix_seconds.Goals as goal

pub returns : goal.returns
returns c =
    let local : c.to_second.result ≡ civil_seconds c.args.self.local = c.to_second.ensures.value in
    omega (arith, signed_arith, local, unix_seconds_is c.args.self, c.args.self.offset.in_range)
