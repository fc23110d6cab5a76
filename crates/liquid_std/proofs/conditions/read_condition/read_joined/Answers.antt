use Rattle.std.proofs.Common.{◌≡◌, map, ap, [], ◌∷◌, ◌++◌, ◌∙◌, Ok, sym, rules}
use Rattle.std.proofs.lemmas.List.{map-append}
use Rattle.std.proofs.lemmas.Result.{err_from_is_err_and}
use Rattle.liquid_error.specs.meaning.Told.{told}
use Rattle.liquid_std.specs.meaning.conditions.Conditions.{joined_of, test_of}
use Rattle.liquid_std.specs.meaning.conditions.ConditionsGiven.{after_test}
use Rattle.liquid_std.proofs.ReadLemmas.{all_read, connective_refused, test_read, test_refused}
use Rattle.liquid_std.proofs.conditions.read_condition.read_joined.Goals as goal

pub tests-preserved : goal.tests-preserved
tests-preserved c ts at =
    let so_far = c.tests.invariant ts at in
    let given = c.in-Some.ensures.value so_far.0 so_far.1 in
    let replaced : c.replace.result ≡ c.tests.last = search rules in
    let renewed : c.replace.new.dest ≡ c.in_ok-test.test = search rules in
    let taken = c.in_ok-test.ensures.value given.0.1 given.2.left in (
      taken.0,
      taken.2,
      test_read (map joined_of c.tests.joined.items) _ (test_of c.tests.last)
          (test_of c.replace.new.dest) so_far.0.left given.0 c.in_ok-connective.connective taken.0 _
          so_far.2 given.1 (c.in_ok-connective.ensures given.0.0 given.2.token_is)
          (taken.1 ∙ ap (λ test. Ok (test_of test, taken.0)) (sym renewed))
          (ap (map joined_of) c.in_ok-push.ensures.items ∙ map-append joined_of c.tests.joined.items
          ((c.replace.result, c.in_ok-connective.connective) ∷ [])
          ∙ ap (λ test. map joined_of c.tests.joined.items ++ (test_of test, c.in_ok-connective.connective) ∷ []) replaced),
    )

pub returns-in_err-test : goal.returns-in_err-test
returns-in_err-test c ts at =
    let so_far = c.tests.invariant ts at in
    let given = c.in-Some.ensures.value so_far.0 so_far.1 in
    let p = err_from_is_err_and c.from_residual-in_err-test.result c.from_residual-in_err-test.ensures.1 in
    rw (p.1, p.2) (test_refused (map joined_of c.tests.joined.items)
    (test_of c.tests.last) so_far.0.left given.0 c.in_ok-connective.connective (told c.in_err-test.field-0.0) _
    so_far.2 given.1 (c.in_ok-connective.ensures given.0.0 given.2.token_is) (c.in_err-test.ensures.value given.0.1 given.2.left))

pub returns-in_err-connective : goal.returns-in_err-connective
returns-in_err-connective c ts at =
    let so_far = c.tests.invariant ts at in
    let given = c.in-Some.ensures.value so_far.0 so_far.1 in
    let p = err_from_is_err_and c.from_residual.result c.from_residual.ensures.1 in
    rw (p.1, p.2) (connective_refused (map joined_of c.tests.joined.items) (test_of c.tests.last) so_far.0.left given.0
    (told c.in_err-connective.field-0.0) _
    so_far.2 given.1 (c.in_err-connective.ensures given.0.0 given.2.token_is))

pub returns : goal.returns
returns c ts at =
    let so_far = c.tests.invariant ts at in
    all_read (map joined_of c.tests.joined.items) (test_of c.tests.last) so_far.0.left _ so_far.2
    (c.in_default.ensures.value so_far.0 so_far.1).0
