use Rattle.std.proofs.Common.{◌≡◌, ◌-◌}
use Rattle.liquid_dates.specs.steps.DateReader.{find_name}
use Rattle.liquid_dates.specs.meaning.Names.{short_month_name}
use Rattle.liquid_dates.proofs.reading.find_month.Given as goal

abbrev pub invariant-months : goal.invariant-months
invariant-months l = find_name short_month_name l.name (13 - l.month) l.month ≡ find_name short_month_name l.name 12 1
