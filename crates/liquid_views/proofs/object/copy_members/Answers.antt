use Rattle.std.proofs.Common.{◌≡◌, [], ◌∷◌, ◌++◌, string_bytes, sym, ap, ◌∙◌, subst, append_assoc}
use Rattle.std.specs.List.Sorted.{IsStrictlySortedBy}
use Rattle.std.specs.Map.{keys_of}
use Rattle.liquid_value.specs.meaning.View.{members_view}
use Rattle.liquid_value.proofs.Entries.{members_view-insert_entry}
use Rattle.liquid_views.proofs.Maps.{put_last}
use Rattle.liquid_views.proofs.object.copy_members.Goals as goal

pub loop-key-preserved : goal.loop-key-preserved
loop-key-preserved g c =
    let l = c.loop-key in
    let done = l.invariant.0 in
    let e : g.row.K.Denot × g.row.V.Denot = (c.in-Some.key.now, c.in-Some.member.now) in
    let left = c.next.new.self in
    let all : c.args.members.now.entries ≡ done ++ e ∷ left = l.invariant.1 ∙ ap (λ es. done ++ es) c.in-Some.ensures.steps in
    let last =
    put_last g.K.ObjectIndex.index g.K.Ord.cmp g.met.K.ObjectIndex.ordered g.V.ValueView.tree done e left
    (subst (λ es. IsStrictlySortedBy g.K.Ord.cmp (keys_of es)) all c.iter-key-items.ensures.ordered) in
    let named : string_bytes c.in_ok-name.name ≡ g.K.ObjectIndex.index e.0 = c.in_ok-name.ensures.ok ∙ c.as_index.ensures in (
      done ++ e ∷ [],
      all ∙ sym (append_assoc done (e ∷ []) left),
      ap members_view c.in_ok-insert.ensures.entries ∙ members_view-insert_entry l.copies.entries c.in_ok-name.name c.in_ok-to_value.field-0
          ∙ rw (named, c.in_ok-to_value.ensures, l.invariant.2) last,
    )
