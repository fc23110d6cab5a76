use Rattle.std.proofs.Common.{◌≡◌, ◌+◌, drop, string_bytes, sym, ap, ◌∙◌}
use Rattle.liquid_value.proofs.Entries.{members_view-insert_entry}
use Rattle.liquid_value.specs.meaning.Members.{put_member}
use Rattle.liquid_value.specs.meaning.View.{view, members_view}
use Rattle.liquid_views.proofs.Pairs.{pairs_turn}
use Rattle.liquid_views.specs.meaning.Pairs.{put_pairs}
use Rattle.liquid_views.proofs.build.object_of.Goals as goal

pub loop-pair-preserved : goal.loop-pair-preserved
loop-pair-preserved g c =
    let l = c.loop-pair in
    let tree = g.V.ValueView.tree in
    let pair = c.pair-item.result in
    let ps = c.args.pairs.now in
    let ms = members_view l.object.entries in
    let named : string_bytes c.in_ok-name.name ≡ pair.0.now = c.in_ok-name.ensures.ok in
    let put : members_view c.insert.new.self.entries ≡ put_member pair.0.now (tree pair.1) ms =
    ap members_view c.in_ok-insert.ensures.entries ∙ members_view-insert_entry l.object.entries c.in_ok-name.name c.in_ok-to_value.field-0
    ∙ ap (λ name. put_member name (view c.in_ok-to_value.field-0) ms) named
    ∙ ap (λ t. put_member pair.0.now t ms) c.in_ok-to_value.ensures in
    l.invariant ∙ pairs_turn tree ps l.pair-index pair ms c.loop-pair-test.true c.pair-item.is
    ∙ ap (put_pairs tree (drop (l.pair-index + 1) ps)) (sym put)
