use Rattle.std.proofs.Common.{◌≡◌, string_bytes, sym, ap, ◌∙◌}
use Rattle.liquid_value.specs.meaning.Members.{put_member}
use Rattle.liquid_views.specs.meaning.Entries.{put_entries, index_members}
use Rattle.liquid_views.proofs.HashMaps.{index_members-insert_entry}
use Rattle.liquid_views.proofs.hash_map.index_of.Goals as goal

pub loop-key-preserved : goal.loop-key-preserved
loop-key-preserved g c =
    let l = c.loop-key in
    let tree = g.V.ValueView.tree in
    let ms = index_members tree l.index.entries in
    let left = c.next.new.self in
    let put : index_members tree c.insert.new.self.entries ≡ put_member (string_bytes c.in-Some.key.now) (tree c.in-Some.member.now) ms =
    ap (index_members tree) c.in_ok-insert.ensures.entries ∙ index_members-insert_entry tree l.index.entries c.as_str.result
    c.in-Some.member
    ∙ ap (λ name. put_member name (tree c.in-Some.member.now) ms) c.as_str.ensures.value in
    l.invariant ∙ ap (λ es. put_entries tree es ms) c.in-Some.ensures.steps ∙ ap (put_entries tree left) (sym put)
