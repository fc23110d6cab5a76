use Rattle.std.proofs.Common.{◌≡◌, ◌-◌}
use Rattle.liquid_dates.specs.steps.DateReader.{find_name}
use Rattle.liquid_dates.specs.meaning.Names.{short_weekday_name}
use Rattle.liquid_dates.proofs.reading.find_weekday.Given as goal

abbrev pub invariant-weekdays : goal.invariant-weekdays
invariant-weekdays l = find_name short_weekday_name l.name (7 - l.weekday) l.weekday ≡ find_name short_weekday_name l.name 7 0
