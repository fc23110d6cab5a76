use Rattle.liquid_dates.proofs.WholeLemmas.{short_found, short_whole, found_weaker, none_weaker}
use Rattle.liquid_dates.proofs.date_text.short_date.Goals as goal

pub returns-clause-fits : goal.returns-clause-fits
returns-clause-fits c =
    found_weaker _ _ _ (λ d h. short_found c.args.text.now c.read_short_date-read.result d c.read_short_date-read.ensures.value h)
    c.date_of.ensures.found

pub returns-clause-none : goal.returns-clause-none
returns-clause-none c =
    none_weaker _ _ _ (λ d h. short_whole c.args.text.now c.read_short_date-read.result d c.read_short_date-read.ensures.value h)
    c.date_of.ensures.none
