use Rattle.std.proofs.Common.{inl, inr, List, ℕ}
use Rattle.liquid_dates.specs.declared.date_time.DateTime.{DateTime}
use Rattle.filter_dates.specs.meaning.MomentText.{IsMomentInText}
use Rattle.filter_dates.specs.meaning.Moments.{IsPlainTextAt, IsTextAt}
use Rattle.filter_dates.proofs.FieldLemmas.{ok_none}
use Rattle.filter_dates.proofs.moments.text_at.Goals as goal

pub returns-in-Some-clause-fits : goal.returns-in-Some-clause-fits
returns-in-Some-clause-fits c = inl c.in-Some.ensures.fits

-- a string that is no plain one
other : (text : List ℕ) (now dt : DateTime) → ((e : DateTime) → ¬ (IsPlainTextAt now text e)) → IsTextAt now text dt
    → IsMomentInText text dt
other text now dt none (inl is) = absurd (none dt is)
other text now dt none (inr (_, is)) = is

pub returns-in-None-clause-none : goal.returns-in-None-clause-none
returns-in-None-clause-none c =
    ok_none _ (IsMomentInText c.args.text.now) (IsTextAt c.args.now.now c.args.text.now)
    (λ dt h. other c.args.text.now c.args.now.now dt c.in-None.ensures.none h) c.moment_in_text.ensures.none
