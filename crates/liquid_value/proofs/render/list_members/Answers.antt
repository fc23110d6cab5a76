use Rattle.std.proofs.Common.{[], ◌++◌, string_bytes, refl, ap, sym, ◌∙◌, rules}
use Rattle.std.proofs.Output.{has_written_append}
use Rattle.liquid_value.proofs.Walks.{members_turn}
use Rattle.liquid_value.specs.meaning.Render.{listed_member, listed_members}
use Rattle.liquid_value.specs.meaning.View.{view, members_view}
use Rattle.liquid_value.proofs.render.list_members.Goals as goal

pub loop-key-init : goal.loop-key-init
loop-key-init g c = (
  [],
  ap (λ es. listed_members (members_view es))
      (sym (c.into_iter-key-iterator.ensures.into_iter_gives ∙ c.iter-key-items.ensures.rest)),
  λ p. search rules,
)

pub loop-key-preserved : goal.loop-key-preserved
loop-key-preserved g c =
    let l = c.loop-key in
    let key = c.in-Some.key.now in
    let v = c.in-Some.value.now in (
      l.invariant.0 ++ listed_member (string_bytes key) (view v),
      members_turn listed_members listed_member (λ k u ms. refl) _ _ _ _ key v c.in-Some.ensures.steps l.invariant.1,
      λ p. has_written_append _ _ _ _ _ _ (l.invariant.2 p) (search rules),
    )
