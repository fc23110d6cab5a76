use Rattle.std.proofs.Common.{map, ap, [], ◌∷◌, ◌∙◌}
use Rattle.std.proofs.lemmas.List.{map-append}
use Rattle.std.proofs.lemmas.Result.{err_from_is_err_and}
use Rattle.liquid_error.specs.meaning.Told.{told}
use Rattle.liquid_tags.specs.meaning.Partials.{pair_of}
use Rattle.liquid_std.specs.meaning.inclusion.CallsGiven.{pairs_from}
use Rattle.liquid_std.proofs.PairLemmas.{all_read, pair_read, pair_refused}
use Rattle.liquid_std.proofs.inclusion.pairs.read_pairs.Goals as goal

pub pairs-preserved : goal.pairs-preserved
pairs-preserved c ts at =
    let so_far = c.pairs.invariant ts at in
    let given = c.in-Some.ensures.value so_far.0 so_far.1 in
    let taken = c.in_ok-pair.ensures.value given.0.0 given.2.token_is given.0.1 given.2.left in (
      taken.0,
      taken.2,
      pair_read (map pair_of c.pairs.pairs.items) so_far.0 (pairs_from ts.left) so_far.2 given.0 given.1 _
          (pair_of c.in_ok-pair.pair) taken.0 taken.1
          (ap (map pair_of) c.in_ok-push.ensures.items ∙ map-append pair_of c.pairs.pairs.items (c.in_ok-pair.pair ∷ [])),
    )

pub returns-in_err-pair : goal.returns-in_err-pair
returns-in_err-pair c ts at =
    let so_far = c.pairs.invariant ts at in
    let given = c.in-Some.ensures.value so_far.0 so_far.1 in
    let p = err_from_is_err_and c.from_residual.result c.from_residual.ensures.1 in
    rw (p.1, p.2) (pair_refused (map pair_of c.pairs.pairs.items) so_far.0 (pairs_from ts.left) so_far.2 given.0 given.1
    (told c.in_err-pair.field-0.0) (c.in_err-pair.ensures.value given.0.0 given.2.token_is given.0.1 given.2.left))

pub returns : goal.returns
returns c ts at =
    let so_far = c.pairs.invariant ts at in
    all_read (map pair_of c.pairs.pairs.items) so_far.0 (pairs_from ts.left) so_far.2 (c.in_default.ensures.value so_far.0 so_far.1)
