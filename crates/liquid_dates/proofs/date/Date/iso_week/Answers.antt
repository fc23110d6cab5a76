use Rattle.std.proofs.Common.{◌≡◌}
use Rattle.jiff_core.specs.Date.{epoch_day}
use Rattle.jiff_core.specs.IsoWeekDate.{iso_epoch_day}
use Rattle.liquid_dates.proofs.IsoWeekLemmas.{week_date_is}
use Rattle.liquid_dates.proofs.date.Date.iso_week.Goals as goal

pub returns : goal.returns
returns c =
    let same : iso_epoch_day c.from_date.result ≡ epoch_day c.args.self.now = cc (c.from_date.ensures, c.self.view_is) in
    (week_date_is c.args.self.now c.from_date.result same).1
