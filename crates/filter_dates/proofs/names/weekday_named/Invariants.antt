use Rattle.std.proofs.Common.{◌≡◌, ◌-◌}
use Rattle.liquid_dates.specs.meaning.Names.{weekday_name}
use Rattle.filter_dates.specs.meaning.Names.{first_named}
use Rattle.filter_dates.proofs.names.weekday_named.Given as goal

abbrev pub invariant-weekdays : goal.invariant-weekdays
invariant-weekdays l = first_named weekday_name l.word (7 - l.weekday) l.weekday ≡ first_named weekday_name l.word 7 0
