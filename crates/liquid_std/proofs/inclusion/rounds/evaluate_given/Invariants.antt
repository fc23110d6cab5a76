use Rattle.std.proofs.Common.{◌≡◌, ◌++◌, drop, map, Ok}
use Rattle.liquid_error.specs.meaning.Refusal.{ok_then}
use Rattle.liquid_tags.specs.meaning.Partials.{pair_of}
use Rattle.liquid_std.specs.meaning.inclusion.Rounds.{given_in, given_of}
use Rattle.liquid_std.proofs.inclusion.rounds.evaluate_given.Given as goal

abbrev pub invariant-loop-pair : goal.invariant-loop-pair
invariant-loop-pair g l =
    let v = g.R.Runtime.view l.runtime in
    given_in v (map pair_of l.pairs) ≡ ok_then (given_in v (map pair_of (drop l.pair-index l.pairs)))
    (λ given. Ok (map given_of l.given.items ++ given))
