use Rattle.std.proofs.Common.{◌≡◌, ap, sym, subst, ◌∙◌, Err}
use Rattle.std.proofs.lemmas.Result.{err_from_is_err_and}
use Rattle.std.specs.Prelude.{IfSome}
use Rattle.liquid_error.specs.meaning.Refusal.{ok_then}
use Rattle.liquid_error.specs.meaning.Told.{told, Gives}
use Rattle.liquid_plugins.specs.meaning.ExpressionOf.{expression_of}
use Rattle.liquid_parser.specs.meaning.Handed.{expect_value}
use Rattle.liquid_tags.specs.meaning.Asked.{alone, next_as}
use Rattle.liquid_tags.specs.declared.if_block.condition.ConditionShape.{ConditionShape}
use Rattle.liquid_tags.specs.meaning.Conditions.{condition_of}
use Rattle.liquid_tags.specs.meaning.ConditionsGiven.{comparison_of}
use Rattle.liquid_tags.specs.declared.if_block.condition.ConditionShape.TheVariants.{Compares}
use Rattle.liquid_parser.proofs.StepLemmas.{then_refused}
use Rattle.liquid_tags.proofs.ConditionLemmas.{nothing_after, compared, uncompared}
use Rattle.liquid_tags.proofs.if_block.read_condition.following_value.Goals as goal

pub returns-in-None : goal.returns-in-None
returns-in-None c ts at = nothing_after (expression_of c.args.left) ts.left (c.in-None.ensures.value ts at).0

pub returns-in-None-comparison_of : goal.returns-in-None-comparison_of
returns-in-None-comparison_of c ts at =
    let given = c.in-Some.ensures.value ts at in
    uncompared (expression_of c.args.left) ts.left given.0 (told c.raise_error.result) given.1
    (ap comparison_of (sym (c.as_str.ensures given.0.0 given.2.token_is)) ∙ sym c.in-None-comparison_of.ensures)
    (c.raise_error.ensures given.0.0 given.2.token_is)

pub returns-in_ok-right-in-Some-comparison_of : goal.returns-in_ok-right-in-Some-comparison_of
returns-in_ok-right-in-Some-comparison_of c ts at =
    let given = c.in-Some.ensures.value ts at in
    let taken = c.in_ok-right-in-Some-comparison_of.ensures.value given.0.1 given.2.left in
    let fits = ap comparison_of (sym (c.as_str.ensures given.0.0 given.2.token_is)) ∙ sym c.in-Some-comparison_of.ensures in
    subst (λ m. Gives condition_of c.alone.result m)
    (sym (compared (expression_of c.args.left) ts.left given.0 c.in-Some-comparison_of.comparison given.1 fits
    ∙ ap (λ r. ok_then r (λ value. alone (Compares (expression_of c.args.left) c.in-Some-comparison_of.comparison value.0) value.1))
    taken.1))
    (c.alone.ensures taken.0 taken.2)

pub returns-in_err-right-in-Some-comparison_of : goal.returns-in_err-right-in-Some-comparison_of
returns-in_err-right-in-Some-comparison_of c ts at =
    let given = c.in-Some.ensures.value ts at in
    let fits = ap comparison_of (sym (c.as_str.ensures given.0.0 given.2.token_is)) ∙ sym c.in-Some-comparison_of.ensures in
    let error = c.in_err-right-in-Some-comparison_of.field-0.0 in
    let p = err_from_is_err_and c.from_residual.result c.from_residual.ensures.1 in
    rw (p.1, p.2) (subst (λ m. IfSome (told error) (λ r. m ≡ Err r))
    (sym (compared (expression_of c.args.left) ts.left given.0 c.in-Some-comparison_of.comparison given.1 fits))
    (then_refused {B = ConditionShape} (told error) (next_as expect_value given.0.1)
    (λ value. alone (Compares (expression_of c.args.left) c.in-Some-comparison_of.comparison value.0) value.1)
    (c.in_err-right-in-Some-comparison_of.ensures.value given.0.1 given.2.left)))
