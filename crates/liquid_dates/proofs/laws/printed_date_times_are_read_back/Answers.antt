use Rattle.liquid_dates.proofs.ReadBackLemmas.{date_time_read_back}
use Rattle.liquid_dates.proofs.laws.printed_date_times_are_read_back.Goals as goal

pub returns : goal.returns
returns c = date_time_read_back
