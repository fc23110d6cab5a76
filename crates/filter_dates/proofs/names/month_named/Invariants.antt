use Rattle.std.proofs.Common.{◌≡◌, ◌-◌}
use Rattle.liquid_dates.specs.meaning.Names.{month_name}
use Rattle.filter_dates.specs.meaning.Names.{first_named}
use Rattle.filter_dates.proofs.names.month_named.Given as goal

abbrev pub invariant-months : goal.invariant-months
invariant-months l = first_named month_name l.word (13 - l.month) l.month ≡ first_named month_name l.word 12 1
