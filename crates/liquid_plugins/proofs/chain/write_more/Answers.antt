use Rattle.std.proofs.Common.{◌++◌, codes, rules}
use Rattle.std.proofs.Output.{has_written_append}
use Rattle.liquid_paths.proofs.Turns.{pieces_turn}
use Rattle.liquid_plugins.proofs.chain.write_more.Goals as goal

pub loop-filter-preserved : goal.loop-filter-preserved
loop-filter-preserved g c =
    let l = c.loop-filter in
    let x = c.filter-item.result in
    let shape = g.X.Meant.shape in (
      l.invariant.0 ++ (codes " | " ++ g.X.Filter.means.label (shape x)),
      pieces_turn shape (λ y. codes " | " ++ g.X.Filter.means.label y) _ _ _ l.filter-index x c.loop-filter-test.true c.filter-item.is
          l.invariant.1,
      λ p. has_written_append _ _ _ _ _ _ (l.invariant.2 p) (search rules),
    )
