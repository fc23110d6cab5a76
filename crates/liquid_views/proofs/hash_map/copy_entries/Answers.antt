use Rattle.std.proofs.Common.{◌≡◌, string_bytes, sym, ap, ◌∙◌}
use Rattle.liquid_value.proofs.Entries.{members_view-insert_entry}
use Rattle.liquid_value.specs.meaning.Members.{put_member}
use Rattle.liquid_value.specs.meaning.View.{view, members_view}
use Rattle.liquid_views.specs.meaning.Entries.{put_entries}
use Rattle.liquid_views.proofs.hash_map.copy_entries.Goals as goal

pub loop-key-preserved : goal.loop-key-preserved
loop-key-preserved g c =
    let l = c.loop-key in
    let tree = g.V.ValueView.tree in
    let ms = members_view l.copies.entries in
    let left = c.next.new.self in
    let named : string_bytes c.in_ok-name.name ≡ string_bytes c.in-Some.key.now = c.in_ok-name.ensures.cases in
    let put : members_view c.insert.new.self.entries ≡ put_member (string_bytes c.in-Some.key.now) (tree c.in-Some.member.now) ms =
    ap members_view c.in_ok-insert.ensures.entries ∙ members_view-insert_entry l.copies.entries c.in_ok-name.name c.in_ok-to_value.field-0
    ∙ ap (λ name. put_member name (view c.in_ok-to_value.field-0) ms) named
    ∙ ap (λ t. put_member (string_bytes c.in-Some.key.now) t ms) c.in_ok-to_value.ensures in
    l.invariant ∙ ap (λ es. put_entries tree es ms) c.in-Some.ensures.steps ∙ ap (put_entries tree left) (sym put)
