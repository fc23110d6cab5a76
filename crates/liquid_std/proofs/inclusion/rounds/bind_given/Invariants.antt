use Rattle.std.proofs.Common.{◌≡◌, drop, map}
use Rattle.liquid_runtime.specs.meaning.Maps.{names_of}
use Rattle.liquid_std.specs.meaning.inclusion.Rounds.{given_of, with_given}
use Rattle.liquid_std.proofs.inclusion.rounds.bind_given.Given as goal

abbrev pub invariant-loop-pair : goal.invariant-loop-pair
invariant-loop-pair l =
    with_given (names_of l.fn.names) (map given_of l.given) ≡ with_given (names_of l.names) (map given_of (drop l.pair-index l.given))
