use Rattle.std.proofs.Common.{◌≡◌, ap, sym, ◌∙◌, subst, IfSome}
use Rattle.std.specs.Prelude.{IsSomeAnd}
use Rattle.liquid_dates.specs.declared.date_time.DateTime.{DateTime}
use Rattle.liquid_dates.specs.meaning.DateText.{SameDateTime}
use Rattle.liquid_scalar.specs.meaning.Scalar.{Scal, text, scal}
use Rattle.liquid_scalar.specs.meaning.ScalarDates.{IsDateTimeOf}
use Rattle.liquid_scalar.proofs.scalar.ScalarOf.to_date_time.Goals as goal

pub returns-in-Str-clause-fits : goal.returns-in-Str-clause-fits
returns-in-Str-clause-fits g c =
    let P : Scal → Type 0 = λ s. IfSome c.from_str.result (λ (dt : DateTime). IsDateTimeOf s c.args.moment dt) in
    let is : text c.as_str.result.now ≡ scal g.T.AsStr.text c.args.self.now = ap text c.as_str.ensures
    ∙ ap (scal g.T.AsStr.text) (sym c.in-Str.is) in
    subst P is c.from_str.ensures.fits

pub returns-in-Str-clause-only : goal.returns-in-Str-clause-only
returns-in-Str-clause-only g c =
    let P : Scal → Type 0 = λ s. (dt : DateTime) → IsDateTimeOf s c.args.moment dt
    → IsSomeAnd c.from_str.result (λ (r : DateTime). SameDateTime r dt) in
    let is : text c.as_str.result.now ≡ scal g.T.AsStr.text c.args.self.now = ap text c.as_str.ensures
    ∙ ap (scal g.T.AsStr.text) (sym c.in-Str.is) in
    subst P is c.from_str.ensures.only
