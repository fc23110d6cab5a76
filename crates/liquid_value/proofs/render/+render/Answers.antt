use Rattle.std.proofs.Common.{[], ◌++◌, string_bytes, refl, ap, ◌∙◌, sym, rules}
use Rattle.std.proofs.Output.{has_written_append}
use Rattle.liquid_value.proofs.Walks.{items_turn, members_turn}
use Rattle.liquid_value.specs.meaning.Render.{render, render_items, render_members}
use Rattle.liquid_value.specs.meaning.View.{view, items_view, members_view}
use Rattle.liquid_value.proofs.render.+render.Goals as goal

pub write_items-loop-item-init : goal.write_items-loop-item-init
write_items-loop-item-init g t c = ([], ap (λ vs. render_items (items_view vs)) (sym c.deref-item-items.ensures.value), λ p. search rules)

pub write_items-loop-item-preserved : goal.write_items-loop-item-preserved
write_items-loop-item-preserved g t c =
    let l = c.loop-item in
    let v = c.item-item.result in (
      l.invariant.0 ++ render (view v),
      items_turn render_items render (λ t ts. refl) _ _ _ l.item-index v c.loop-item-test.true c.item-item.is l.invariant.1,
      λ p. has_written_append _ _ _ _ _ _ (l.invariant.2 p) (search rules),
    )

pub write_members-loop-key-init : goal.write_members-loop-key-init
write_members-loop-key-init g t c = (
  [],
  ap (λ es. render_members (members_view es))
      (sym (c.into_iter-key-iterator.ensures.into_iter_gives ∙ c.iter-key-items.ensures.rest)),
  λ p. search rules,
)

pub write_members-loop-key-preserved : goal.write_members-loop-key-preserved
write_members-loop-key-preserved g t c =
    let l = c.loop-key in
    let key = c.in-Some.key.now in
    let v = c.in-Some.value.now in (
      l.invariant.0 ++ (string_bytes key ++ render (view v)),
      members_turn render_members (λ k u. k ++ render u) (λ k u ms. refl) _ _ _ _ key v c.in-Some.ensures.steps l.invariant.1,
      λ p. has_written_append _ _ _ _ _ _ (l.invariant.2 p) (search rules),
    )
