use Rattle.filter_dates.specs.meaning.MomentText.{HasFields, IsMomentInText}
use Rattle.liquid_dates.proofs.WholeLemmas.{none_weaker}
use Rattle.filter_dates.proofs.FieldLemmas.{fields_from}
use Rattle.filter_dates.proofs.moments.moment_in_text.Goals as goal

pub returns-in-Some-clause-none : goal.returns-in-Some-clause-none
returns-in-Some-clause-none c =
    none_weaker _ (HasFields c.in-Some.fields) (IsMomentInText c.args.text.now)
    (λ dt h. fields_from c.args.text.now _ c.in-Some.fields dt c.in_ok-fields.ensures c.in-Some.is h) c.date_time_of.ensures.none
