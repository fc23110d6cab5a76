use Rattle.std.proofs.Common.{[], ◌++◌, string_bytes, refl, ap, sym, ◌∙◌, rules}
use Rattle.std.proofs.Output.{has_written_append}
use Rattle.liquid_value.specs.meaning.Render.{render, render_members}
use Rattle.liquid_views.specs.meaning.Trees.{members_by}
use Rattle.liquid_views.proofs.Maps.{map_turn}
use Rattle.liquid_views.proofs.object.BTreeMapValueView.write_render.Goals as goal

pub loop-key-init : goal.loop-key-init
loop-key-init g c = (
  [],
  ap (λ es. render_members (members_by g.K.ObjectIndex.index g.V.ValueView.tree es))
      (sym (c.into_iter-key-iterator.ensures.into_iter_gives ∙ c.iter-key-items.ensures.rest)),
  λ p. search rules,
)

pub loop-key-preserved : goal.loop-key-preserved
loop-key-preserved g c =
    let l = c.loop-key in
    let key = c.in-Some.key.now in
    let v = c.in-Some.value.now in (
      l.invariant.0 ++ (g.K.ObjectIndex.index key ++ render (g.V.ValueView.tree v)),
      map_turn g.K.ObjectIndex.index g.V.ValueView.tree render_members (λ k u. k ++ render u)
          (λ k u ms. refl) _ _ _ _ key v c.in-Some.ensures.steps l.invariant.1,
      λ p. has_written_append _ _ _ _ _ _ (l.invariant.2 p) (search rules),
    )
