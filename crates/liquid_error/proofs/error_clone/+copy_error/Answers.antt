use Rattle.std.proofs.Common.{◌≡◌, Some, rules, ap, sym, ◌∙◌, Option}
use Rattle.liquid_error.specs.declared.cause.CauseOf.{CauseOf}
use Rattle.liquid_error.specs.declared.cause.CauseOf.TheVariants as cause_of
use Rattle.liquid_error.specs.declared.error.Error.{Error}
use Rattle.liquid_error.specs.declared.error.Error.TheViews.{Liquid}
use Rattle.liquid_error.specs.meaning.Refusal.{by_text, reason_of_told}
use Rattle.liquid_error.specs.meaning.Told.{told, reason_of}
use Rattle.liquid_error.proofs.Causes.{copied_cause}
use Rattle.liquid_error.proofs.error_clone.+copy_error.Goals as goal

pub returns-in_ok-kept-in-Cloneable : goal.returns-in_ok-kept-in-Cloneable
returns-in_ok-kept-in-Cloneable t c =
    let was : c.args.error.now ≡ Liquid c.in-Liquid.report (Some (cause_of.Cloneable c.in-Cloneable.kept)) =
    c.in-Liquid.is ∙ ap (λ (cause : Option (CauseOf Error)). Liquid c.in-Liquid.report cause)
    (c.in-Some.is ∙ ap Some c.in-Cloneable.is) in
    let causes : reason_of (cause_of.Cloneable c.in_ok-kept-in-Cloneable.kept) ≡ reason_of (cause_of.Cloneable c.in-Cloneable.kept) =
    ap by_text c.in_ok-kept-in-Cloneable.ensures.cases in
    copied_cause c.in-Liquid.report c.in_ok-report-in-Liquid.report (cause_of.Cloneable c.in-Cloneable.kept)
    (cause_of.Cloneable c.in_ok-kept-in-Cloneable.kept) c.in_ok-report-in-Liquid.ensures.cases causes
    ∙ ap told (sym was)

pub returns-in_ok-boxed-in-Error : goal.returns-in_ok-boxed-in-Error
returns-in_ok-boxed-in-Error t c =
    let was : c.args.error.now ≡ Liquid c.in-Liquid.report (Some (cause_of.Error c.in-Error.inner)) =
    c.in-Liquid.is ∙ ap (λ (cause : Option (CauseOf Error)). Liquid c.in-Liquid.report cause) (c.in-Some.is ∙ ap Some c.in-Error.is) in
    let same : told c.in_ok-boxed-in-Error.boxed.value ≡ told c.in-Error.inner.value =
    search (rules, c.in_ok-boxed-in-Error.ensures, c.in_ok-inner-in-Error.ensures) in
    copied_cause c.in-Liquid.report c.in_ok-report-in-Liquid.report (cause_of.Error c.in-Error.inner)
    (cause_of.Error c.in_ok-boxed-in-Error.boxed) c.in_ok-report-in-Liquid.ensures.cases (ap reason_of_told same)
    ∙ ap told (sym was)
