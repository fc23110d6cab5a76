use Rattle.std.proofs.Common.{[], ◌++◌, refl, ap, sym, rules}
use Rattle.std.proofs.Output.{has_written_append}
use Rattle.liquid_value.specs.meaning.Render.{render, render_items}
use Rattle.liquid_views.specs.meaning.Trees.{items_by}
use Rattle.liquid_views.proofs.Lists.{list_turn}
use Rattle.liquid_views.proofs.array.VecValueView.write_render.Goals as goal

pub loop-item-init : goal.loop-item-init
loop-item-init g c =
    ([], ap (λ xs. render_items (items_by g.T.ValueView.tree xs)) (sym c.deref-item-items.ensures.value), λ p. search rules)

pub loop-item-preserved : goal.loop-item-preserved
loop-item-preserved g c =
    let l = c.loop-item in
    let x = c.item-item.result in (
      l.invariant.0 ++ render (g.T.ValueView.tree x),
      list_turn g.T.ValueView.tree render_items render (λ t ts. refl) _ _ _ l.item-index x c.loop-item-test.true c.item-item.is
          l.invariant.1,
      λ p. has_written_append _ _ _ _ _ _ (l.invariant.2 p) (search rules),
    )
