use Rattle.std.proofs.Common.{◌≡◌, drop, map}
use Rattle.std.specs.FinMap.{empty}
use Rattle.liquid_runtime.specs.meaning.Maps.{names_of}
use Rattle.liquid_tags.specs.meaning.Partials.{bound, pair_of}
use Rattle.liquid_tags.proofs.partial_call.call.evaluate_pairs.Given as goal

abbrev pub invariant-loop-pair : goal.invariant-loop-pair
invariant-loop-pair g l =
    let v = g.R.Runtime.view l.runtime in
    bound v empty (map pair_of l.pairs) ≡ bound v (names_of l.names) (map pair_of (drop l.pair-index l.pairs))
