use Rattle.std.proofs.Common.{◌++◌, codes, refl, rules}
use Rattle.std.proofs.Output.{has_written_append}
use Rattle.liquid_value.specs.meaning.Render.{render, listed_items}
use Rattle.liquid_views.proofs.Lists.{list_turn}
use Rattle.liquid_views.proofs.array.list_items.Goals as goal

pub loop-item-preserved : goal.loop-item-preserved
loop-item-preserved g c =
    let l = c.loop-item in
    let x = c.item-item.result in (
      l.invariant.0 ++ (render (g.T.ValueView.tree x) ++ codes ", "),
      list_turn g.T.ValueView.tree listed_items (λ t. render t ++ codes ", ")
          (λ t ts. refl) _ _ _ l.item-index x c.loop-item-test.true c.item-item.is l.invariant.1,
      λ p. has_written_append _ _ _ _ _ _ (l.invariant.2 p) (search rules),
    )
