use Rattle.liquid_dates.proofs.WholeLemmas.{found_weaker, none_weaker}
use Rattle.liquid_dates.proofs.DateTimeForms.{long_found, long_whole}
use Rattle.liquid_dates.proofs.date_time_text.long_date_time.Goals as goal

pub returns-clause-fits : goal.returns-clause-fits
returns-clause-fits c =
    found_weaker _ _ _ (λ dt h. long_found c.args.given c.args.text.now c.read_long_stamp-read.result dt
    c.read_long_stamp-read.ensures.value
    c.read_long_stamp-read.ensures.whole h) c.date_time_of.ensures.found

pub returns-clause-none : goal.returns-clause-none
returns-clause-none c =
    none_weaker _ _ _ (λ dt h. long_whole c.args.given c.args.text.now c.read_long_stamp-read.result dt c.read_long_stamp-read.ensures.value
    c.read_long_stamp-read.ensures.whole h) c.date_time_of.ensures.none
