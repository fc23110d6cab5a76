use Rattle.std.proofs.Common.{map, ap, [], ◌∷◌, ◌++◌, ◌∙◌}
use Rattle.std.proofs.lemmas.List.{map-append}
use Rattle.std.proofs.lemmas.Result.{err_from_is_err_and}
use Rattle.liquid_error.specs.meaning.Told.{told}
use Rattle.liquid_plugins.specs.meaning.ExpressionOf.{expression_of}
use Rattle.liquid_std.specs.meaning.conditions.Values.{expressions_of}
use Rattle.liquid_std.proofs.ValueLemmas.{all_read, first_refused, first_value, separator_refused, value_read, value_refused}
use Rattle.liquid_std.proofs.conditions.read_values.read_values.Goals as goal

pub returns-in_err-first : goal.returns-in_err-first
returns-in_err-first c ts at =
    let p = err_from_is_err_and c.from_residual.result c.from_residual.ensures.1 in
    rw (p.1, p.2) (first_refused (map (λ s. s.now) c.args.separators.now) ts (told c.in_err-first.field-0.0)
    (c.in_err-first.ensures.value ts at))

pub returns : goal.returns
returns c ts at =
    let so_far = c.values.invariant ts at in
    all_read (map (λ s. s.now) c.args.separators.now) (expressions_of c.values.values) so_far.0.left _ so_far.2
    (c.in_default.ensures.value so_far.0 so_far.1).0

pub returns-in_err-value : goal.returns-in_err-value
returns-in_err-value c ts at =
    let so_far = c.values.invariant ts at in
    let given = c.in-Some.ensures.value so_far.0 so_far.1 in
    let p = err_from_is_err_and c.from_residual-in_err-value.result c.from_residual-in_err-value.ensures.1 in
    rw (p.1, p.2) (value_refused (map (λ s. s.now) c.args.separators.now) (expressions_of c.values.values) so_far.0.left given.0 tt
    (told c.in_err-value.field-0.0) _
    so_far.2 given.1 (c.in_ok-read_one_of.ensures given.0.0 given.2.token_is) (c.in_err-value.ensures.value given.0.1 given.2.left))

pub returns-in_err-read_one_of : goal.returns-in_err-read_one_of
returns-in_err-read_one_of c ts at =
    let so_far = c.values.invariant ts at in
    let given = c.in-Some.ensures.value so_far.0 so_far.1 in
    let p = err_from_is_err_and c.from_residual-in_err-read_one_of.result c.from_residual-in_err-read_one_of.ensures.1 in
    rw (p.1, p.2) (separator_refused (map (λ s. s.now) c.args.separators.now) (expressions_of c.values.values) so_far.0.left given.0
    (told c.in_err-read_one_of.field-0.0) _
    so_far.2 given.1 (c.in_err-read_one_of.ensures given.0.0 given.2.token_is))

pub values-init : goal.values-init
values-init c ts at =
    let taken = c.in_ok-first.ensures.value ts at in (
      taken.0,
      taken.2,
      first_value (map (λ s. s.now) c.args.separators.now) ts taken.0 (expression_of c.in_ok-first.first) _ taken.1
          (ap (map expression_of) (c.in_ok-push.ensures.items ∙ ap (λ values. values ++ c.in_ok-first.first ∷ [])
          c.new-values.ensures.items)),
    )

pub values-preserved : goal.values-preserved
values-preserved c ts at =
    let so_far = c.values.invariant ts at in
    let given = c.in-Some.ensures.value so_far.0 so_far.1 in
    let taken = c.in_ok-value.ensures.value given.0.1 given.2.left in (
      taken.0,
      taken.2,
      value_read (map (λ s. s.now) c.args.separators.now) (expressions_of c.values.values) _ so_far.0.left given.0
          (expression_of c.in_ok-value.value) taken.0 tt _
          so_far.2 given.1 (c.in_ok-read_one_of.ensures given.0.0 given.2.token_is) taken.1
          (ap (map expression_of) c.in_ok-push-2.ensures.items ∙ map-append expression_of c.values.values.items (c.in_ok-value.value ∷ [])),
    )
