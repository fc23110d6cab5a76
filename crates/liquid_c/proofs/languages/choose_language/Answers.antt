use Rattle.std.proofs.Common.{rules, subst}
use Rattle.liquid_c.specs.steps.Chosen.{IsChosenAt}
use Rattle.liquid_c.proofs.ChosenLemmas.{given, given_none, with_moment}
use Rattle.liquid_c.proofs.languages.choose_language.Goals as goal

pub returns-in-Ok : goal.returns-in-Ok
returns-in-Ok c =
    with_moment c.args.page.now c.in-Ok.now c.language_at.result (search rules)
    (given c.args.page.now c.given_moment.result _ c.in-Ok.is c.given_moment.ensures)
    (subst (λ dialect. IsChosenAt c.in-Ok.now dialect c.language_at.result) c.dialect_of.ensures c.language_at.ensures)

pub returns-in-Err-NoMoment : goal.returns-in-Err-NoMoment
returns-in-Err-NoMoment c = (
  search rules,
  given_none c.args.page.now c.given_moment.result c.in-Err-NoMoment.field-0 c.in-Err-NoMoment.is c.in-Err-NoMoment.field-0-is
      c.given_moment.ensures,
)
