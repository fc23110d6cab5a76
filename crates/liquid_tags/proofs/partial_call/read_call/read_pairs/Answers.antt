use Rattle.std.proofs.Common.{map, ap, [], ◌∷◌, ◌∙◌}
use Rattle.std.proofs.lemmas.List.{map-append}
use Rattle.std.proofs.lemmas.Result.{err_from_is_err_and}
use Rattle.liquid_error.specs.meaning.Told.{told}
use Rattle.liquid_tags.specs.meaning.Partials.{pair_of}
use Rattle.liquid_tags.specs.meaning.CallsGiven.{pairs_given}
use Rattle.liquid_tags.proofs.PairLemmas.{all_read, comma_refused, pair_read, pair_refused}
use Rattle.liquid_tags.proofs.partial_call.read_call.read_pairs.Goals as goal

pub pairs-preserved : goal.pairs-preserved
pairs-preserved c ts at =
    let so_far = c.pairs.invariant ts at in
    let given = c.in-Some.ensures.value so_far.0 so_far.1 in
    let taken = c.in_ok-pair.ensures.value given.0.1 given.2.left in (
      taken.0,
      taken.2,
      pair_read (map pair_of c.pairs.pairs.items) _ so_far.0.left given.0 (pair_of c.in_ok-pair.pair) taken.0 tt
          (pairs_given ts.left) so_far.2 given.1 (c.in_ok-read_comma.ensures given.0.0 given.2.token_is) taken.1
          (ap (map pair_of) c.in_ok-push.ensures.items ∙ map-append pair_of c.pairs.pairs.items (c.in_ok-pair.pair ∷ [])),
    )

pub returns-in_err-pair : goal.returns-in_err-pair
returns-in_err-pair c ts at =
    let so_far = c.pairs.invariant ts at in
    let given = c.in-Some.ensures.value so_far.0 so_far.1 in
    let p = err_from_is_err_and c.from_residual-in_err-pair.result c.from_residual-in_err-pair.ensures.1 in
    rw (p.1, p.2) (pair_refused (map pair_of c.pairs.pairs.items) so_far.0.left given.0 tt (told c.in_err-pair.field-0.0)
    (pairs_given ts.left)
    so_far.2 given.1 (c.in_ok-read_comma.ensures given.0.0 given.2.token_is) (c.in_err-pair.ensures.value given.0.1 given.2.left))

pub returns-in_err-read_comma : goal.returns-in_err-read_comma
returns-in_err-read_comma c ts at =
    let so_far = c.pairs.invariant ts at in
    let given = c.in-Some.ensures.value so_far.0 so_far.1 in
    let p = err_from_is_err_and c.from_residual.result c.from_residual.ensures.1 in
    rw (p.1, p.2) (comma_refused (map pair_of c.pairs.pairs.items) so_far.0.left given.0 (told c.in_err-read_comma.field-0.0)
    (pairs_given ts.left)
    so_far.2 given.1 (c.in_err-read_comma.ensures given.0.0 given.2.token_is))

pub returns : goal.returns
returns c ts at =
    let so_far = c.pairs.invariant ts at in
    all_read (map pair_of c.pairs.pairs.items) so_far.0.left (pairs_given ts.left) so_far.2 (c.in_default.ensures.value so_far.0 so_far.1).0
