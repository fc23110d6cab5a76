use Rattle.std.proofs.Common.{◌++◌, rules}
use Rattle.std.proofs.Output.{has_written_append}
use Rattle.liquid_paths.specs.meaning.PathOf.{index_of, dotted}
use Rattle.liquid_paths.proofs.Turns.{pieces_turn}
use Rattle.liquid_paths.proofs.path.write_rest.Goals as goal

pub loop-index-preserved : goal.loop-index-preserved
loop-index-preserved g c =
    let l = c.loop-index in
    let x = c.index-item.result in (
      l.invariant.0 ++ dotted (index_of x),
      pieces_turn index_of dotted _ _ _ l.index-index x c.loop-index-test.true c.index-item.is l.invariant.1,
      λ p. has_written_append _ _ _ _ _ _ (l.invariant.2 p) (search rules),
    )
