use Rattle.std.proofs.Common.{◌≡◌, ◌+◌, ◌-◌, ◌/◌, ◌%◌, arith, ap, ◌∙◌, sym}
use Rattle.jiff_core.specs.Calendar.{weekday_number}
use Rattle.jiff_core.specs.Date.{epoch_day, ordinal}
use Rattle.liquid_dates.proofs.WeekLemmas.{weekdays_passed_is}
use Rattle.liquid_dates.proofs.numbers.week_from.Goals as goal

pub returns : goal.returns
returns c =
    let since : c.from.result ≡ (weekday_number (epoch_day c.args.date) + 7 - c.args.weekday) % 7 =
    omega (arith, c.index.ensures.value, c.weekday.ensures) in
    ap (λ n. (n + 6 - c.from.result) / 7) c.day_of_year.ensures.value
    ∙ sym (weekdays_passed_is c.args.weekday (ordinal c.args.date) c.from.result (epoch_day c.args.date) c.requires since)
