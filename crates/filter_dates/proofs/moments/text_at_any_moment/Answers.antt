use Rattle.liquid_dates.specs.declared.date_time.DateTime.{DateTime}
use Rattle.filter_dates.specs.meaning.Moments.{IsTextAt}
use Rattle.filter_dates.proofs.FieldLemmas.{ok_found, ok_none}
use Rattle.filter_dates.proofs.MomentLemmas.{text_anywhen}
use Rattle.filter_dates.proofs.moments.text_at_any_moment.Goals as goal

pub returns-in-Some-clause-fits : goal.returns-in-Some-clause-fits
returns-in-Some-clause-fits c =
    let always : (dt : DateTime) → IsTextAt c.in-Some.epoch c.args.text.now dt → (now : DateTime) → IsTextAt now c.args.text.now dt =
    λ dt is now. text_anywhen c.args.text.now c.in-Some.epoch now dt c.requires is in
    ok_found _ (IsTextAt c.in-Some.epoch c.args.text.now) (λ dt. (now : DateTime) → IsTextAt now c.args.text.now dt) always
    c.text_at.ensures.fits

pub returns-in-Some-clause-none : goal.returns-in-Some-clause-none
returns-in-Some-clause-none c =
    ok_none _ (IsTextAt c.in-Some.epoch c.args.text.now) (λ dt. (now : DateTime) → IsTextAt now c.args.text.now dt)
    (λ dt h. h c.in-Some.epoch) c.text_at.ensures.none
