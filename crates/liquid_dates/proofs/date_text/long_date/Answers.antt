use Rattle.liquid_dates.proofs.WholeLemmas.{long_found, long_whole, found_weaker, none_weaker}
use Rattle.liquid_dates.proofs.date_text.long_date.Goals as goal

pub returns-clause-fits : goal.returns-clause-fits
returns-clause-fits c =
    found_weaker _ _ _ (λ d h. long_found c.args.text.now c.read_long_date-read.result d c.read_long_date-read.ensures.value h)
    c.date_of.ensures.found

pub returns-clause-none : goal.returns-clause-none
returns-clause-none c =
    none_weaker _ _ _ (λ d h. long_whole c.args.text.now c.read_long_date-read.result d c.read_long_date-read.ensures.value h)
    c.date_of.ensures.none
