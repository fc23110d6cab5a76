use Rattle.std.proofs.Common.{[], ◌++◌, codes, refl, ap, sym, rules}
use Rattle.std.proofs.Output.{has_written_append}
use Rattle.liquid_value.proofs.Walks.{items_turn}
use Rattle.liquid_value.specs.meaning.Render.{render, listed_items}
use Rattle.liquid_value.specs.meaning.View.{view, items_view}
use Rattle.liquid_value.proofs.render.list_items.Goals as goal

pub loop-item-init : goal.loop-item-init
loop-item-init g c = ([], ap (λ vs. listed_items (items_view vs)) (sym c.deref-item-items.ensures.value), λ p. search rules)

pub loop-item-preserved : goal.loop-item-preserved
loop-item-preserved g c =
    let l = c.loop-item in
    let v = c.item-item.result in (
      l.invariant.0 ++ (render (view v) ++ codes ", "),
      items_turn listed_items (λ t. render t ++ codes ", ")
          (λ t ts. refl) _ _ _ l.item-index v c.loop-item-test.true c.item-item.is l.invariant.1,
      λ p. has_written_append _ _ _ _ _ _ (l.invariant.2 p) (search rules),
    )
