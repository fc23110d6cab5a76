use Rattle.std.proofs.Common.{inl, inr, List, ℕ}
use Rattle.jiff_core.specs.declared.civil.date.Date.{Date as CivilDate}
use Rattle.liquid_dates.specs.declared.date_time.DateTime.{DateTime}
use Rattle.liquid_dates.specs.meaning.DateText.{IsDateText, IsDateTimeText}
use Rattle.liquid_dates.proofs.WholeLemmas.{found_weaker}
use Rattle.filter_dates.specs.meaning.Moments.{IsPlainTextAt}
use Rattle.filter_dates.proofs.moments.plain_text_at.Goals as goal

pub returns-in-Some-clause-fits : goal.returns-in-Some-clause-fits
returns-in-Some-clause-fits c = inl c.in-Some.ensures.fits

pub returns-in-Some-from_str-clause-fits : goal.returns-in-Some-from_str-clause-fits
returns-in-Some-from_str-clause-fits c =
    found_weaker _ _ _ (λ dt at. inr (c.in-None.ensures.only, (c.in-Some-from_str.date, c.in-Some-from_str.ensures.fits, at)))
    c.midnight.ensures.is

-- neither a date time nor a date
neither : (text : List ℕ) (now dt : DateTime) → ((e : DateTime) → ¬ (IsDateTimeText text now e))
    → ((d : CivilDate) → ¬ (IsDateText text now d)) → ¬ (IsPlainTextAt now text dt)
neither text now dt none no_date (inl is) = none dt is
neither text now dt none no_date (inr (_, (d, is, at))) = no_date d is

pub returns-in-None-from_str-clause-none : goal.returns-in-None-from_str-clause-none
returns-in-None-from_str-clause-none c = λ dt h.
    neither c.args.text.now c.args.now.now dt c.in-None.ensures.only c.in-None-from_str.ensures.only h
