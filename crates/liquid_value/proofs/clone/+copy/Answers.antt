use Rattle.std.proofs.Common.{◌≡◌, [], ◌∷◌, ◌++◌, string_bytes, string_cmp, sym, ap, ◌∙◌, subst, append_assoc}
use Rattle.std.proofs.lemmas.Result.{IfOk-weaker}
use Rattle.std.specs.List.Sorted.{IsStrictlySortedBy}
use Rattle.std.specs.Map.{keys_of}
use Rattle.liquid_value.proofs.Entries.{Entry, members_view-insert_entry, put_last}
use Rattle.liquid_value.specs.meaning.View.{members_view}
use Rattle.liquid_value.proofs.Copies.{copied_members, copied_order}
use Rattle.liquid_value.proofs.clone.+copy.Goals as goal

pub copy_object-object_in_order-requires : goal.copy_object-object_in_order-requires
copy_object-object_in_order-requires t c =
    copied_order c.in_ok-copy_entries-in-Some.field-0.items c.args.members.now.entries c.in_ok-copy_entries-in-Some.ensures
    c.iter.ensures.ordered

pub copy_object-returns-in_ok-copy_entries-in-Some : goal.copy_object-returns-in_ok-copy_entries-in-Some
copy_object-returns-in_ok-copy_entries-in-Some t c =
    IfOk-weaker c.object_in_order.result (λ m. members_view m.entries ≡ members_view c.in_ok-copy_entries-in-Some.field-0.items) _
    (λ m same. same ∙ copied_members c.in_ok-copy_entries-in-Some.field-0.items c.args.members.now.entries
    c.in_ok-copy_entries-in-Some.ensures)
    c.object_in_order.ensures

pub copy_few-loop-key-preserved : goal.copy_few-loop-key-preserved
copy_few-loop-key-preserved t c =
    let l = c.loop-key in
    let done = l.invariant.0 in
    let e : Entry = (c.in-Some.key.now, c.in-Some.member.now) in
    let left = c.next.new.self in
    let all : c.args.members.now.entries ≡ done ++ e ∷ left = l.invariant.1 ∙ ap (λ es. done ++ es) c.in-Some.ensures.steps in
    let last = put_last done e left (subst (λ es. IsStrictlySortedBy string_cmp (keys_of es)) all c.iter-key-items.ensures.ordered) in
    let named : string_bytes c.in_ok-name.name ≡ string_bytes e.0 = c.in_ok-name.ensures.cases in (
      done ++ e ∷ [],
      all ∙ sym (append_assoc done (e ∷ []) left),
      ap members_view c.in_ok-insert.ensures.entries ∙ members_view-insert_entry l.copies.entries c.in_ok-name.name c.in_ok-copy.field-0
          ∙ rw (named, c.in_ok-copy.ensures, l.invariant.2) last,
    )
