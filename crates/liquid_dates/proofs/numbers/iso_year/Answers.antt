use Rattle.std.proofs.Common.{arith}
use Rattle.jiff_core.proofs.SignedLemmas.{signed_arith}
use Rattle.liquid_dates.proofs.IsoWeekLemmas.{week_date_is}
use Rattle.liquid_dates.proofs.numbers.iso_year.Goals as goal

pub returns : goal.returns
returns c =
    let week_date = c.from_date-week_date.result in
    omega (arith, signed_arith, week_date.year_in, (week_date_is c.args.date week_date c.from_date-week_date.ensures).0)
