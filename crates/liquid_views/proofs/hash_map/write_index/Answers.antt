use Rattle.std.proofs.Common.{[], ◌++◌, refl, ap, sym, ◌∙◌, rules}
use Rattle.std.proofs.Output.{has_written_append}
use Rattle.liquid_value.specs.meaning.Render.{render, render_members}
use Rattle.liquid_views.specs.meaning.Entries.{index_members}
use Rattle.liquid_views.proofs.HashMaps.{index_turn}
use Rattle.liquid_views.proofs.hash_map.write_index.Goals as goal

pub loop-key-init : goal.loop-key-init
loop-key-init g c = (
  [],
  ap (λ es. render_members (index_members g.V.ValueView.tree es))
      (sym (c.into_iter-key-iterator.ensures.into_iter_gives ∙ c.iter-key-items.ensures.rest)),
  λ p. search rules,
)

pub loop-key-preserved : goal.loop-key-preserved
loop-key-preserved g c =
    let l = c.loop-key in (
      l.invariant.0 ++ (c.in-Some.key.now.now ++ render (g.V.ValueView.tree c.in-Some.member.now.now)),
      index_turn g.V.ValueView.tree render_members (λ k u. k ++ render u)
          (λ k u ms. refl) _ _ _ _ c.in-Some.key.now c.in-Some.member.now c.in-Some.ensures.steps l.invariant.1,
      λ p. has_written_append _ _ _ _ _ _ (l.invariant.2 p) (search rules),
    )
