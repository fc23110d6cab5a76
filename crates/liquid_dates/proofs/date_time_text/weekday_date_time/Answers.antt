use Rattle.liquid_dates.proofs.WholeLemmas.{found_weaker, none_weaker}
use Rattle.liquid_dates.proofs.DateTimeForms.{weekday_found, weekday_whole}
use Rattle.liquid_dates.proofs.date_time_text.weekday_date_time.Goals as goal

pub returns-clause-fits : goal.returns-clause-fits
returns-clause-fits c =
    found_weaker _ _ _ (λ dt h. weekday_found c.args.given c.args.text.now c.read_weekday_stamp-read.result dt
    c.read_weekday_stamp-read.ensures.value c.read_weekday_stamp-read.ensures.whole
    (rw c.forget_weekday-stamp.ensures at h)) c.date_time_of.ensures.found

pub returns-clause-none : goal.returns-clause-none
returns-clause-none c =
    none_weaker _ _ _ (λ dt h. rw c.forget_weekday-stamp.ensures
    (weekday_whole c.args.given c.args.text.now c.read_weekday_stamp-read.result dt c.read_weekday_stamp-read.ensures.value
    c.read_weekday_stamp-read.ensures.whole h)) c.date_time_of.ensures.none
