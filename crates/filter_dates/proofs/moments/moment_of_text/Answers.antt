use Rattle.filter_dates.proofs.moments.moment_of_text.Goals as goal

pub returns-in-Some-clause-none : goal.returns-in-Some-clause-none
returns-in-Some-clause-none c = rw c.in-Some.is c.text_at.ensures.none
