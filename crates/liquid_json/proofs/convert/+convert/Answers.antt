use Rattle.std.proofs.Common.{◌≡◌, ◌∷◌, [], Ok, map, refl, rules, sym, ap, ◌∙◌}
use Rattle.std.specs.Map.{keys_of}
use Rattle.std.specs.Vec.Iter.{into_iter_items}
use Rattle.serde_json.specs.View.{items_view as json_items, members_view as json_members, view as json_view}
use Rattle.liquid_value.specs.meaning.View.{view, entry_view}
use Rattle.liquid_json.specs.meaning.Given.{items_given, members_given}
use Rattle.liquid_json.proofs.Given.{
  no_item_yet,
  no_member_yet,
  item_given,
  member_given,
  item_refusal,
  member_refusal,
  items_done,
  members_done,
  refuses,
  nothing_left,
  keys_more,
}
use Rattle.liquid_json.proofs.convert.+convert.Goals as goal

pub into_items-loop-item-init : goal.into_items-loop-item-init
into_items-loop-item-init t c =
    let rest : into_iter_items c.into_iter-item-iterator.result ≡ c.args.items.items =
    c.into_iter-item-iterator.ensures.into_iter_gives.0 in
    (tt, tt, rw (c.in_ok-values.ensures.items, rest) (no_item_yet (items_given (json_items c.args.items.items))))

pub into_items-loop-item-preserved : goal.into_items-loop-item-preserved
into_items-loop-item-preserved t c =
    let left : into_iter_items c.loop-item.item-iterator ≡ c.in-Some.item ∷ into_iter_items c.next.new.self = c.in-Some.ensures.steps.0 in
    let so_far = rw left at c.loop-item.invariant.2 in (
      tt,
      tt,
      rw c.in_ok-push.ensures.items (item_given _ c.loop-item.values.items c.in_ok-into_value.field-0 (json_view c.in-Some.item)
          (json_items (into_iter_items c.next.new.self)) so_far c.in_ok-into_value.ensures),
    )

pub into_items-returns-in_err-into_value : goal.into_items-returns-in_err-into_value
into_items-returns-in_err-into_value t c =
    let left : into_iter_items c.loop-item.item-iterator ≡ c.in-Some.item ∷ into_iter_items c.next.new.self = c.in-Some.ensures.steps.0 in
    let so_far = rw left at c.loop-item.invariant.2 in
    refuses _ _ c.in_err-into_value.field-0.0 _ (search rules)
    (item_refusal _ (map view c.loop-item.values.items) (json_view c.in-Some.item)
    (json_items (into_iter_items c.next.new.self)) _ so_far c.in_err-into_value.ensures)

pub into_items-returns : goal.into_items-returns
into_items-returns t c =
    let none : into_iter_items c.loop-item.item-iterator ≡ [] =
    nothing_left _ (sym c.loop-item.item-iterator.rest.ok.0 ∙ c.in-None.ensures.steps.0) in
    items_done _ c.loop-item.values.items (rw none at c.loop-item.invariant.2)

pub into_members-loop-name-init : goal.into_members-loop-name-init
into_members-loop-name-init t c =
    let rest : c.into_iter-name-iterator.result ≡ c.args.members.entries = search rules in (
      tt,
      tt,
      rw (c.in_ok-entries.ensures.items, rest) (no_member_yet (members_given (json_members c.args.members.entries))),
      rw (c.in_ok-entries.ensures.items, rest) refl,
    )

pub into_members-loop-name-preserved : goal.into_members-loop-name-preserved
into_members-loop-name-preserved t c =
    let left : c.loop-name.name-iterator ≡ (c.in-Some.name, c.in-Some.member) ∷ c.next.new.self = search rules in
    let so_far = rw left at c.loop-name.invariant.2 in
    let names = rw left at c.loop-name.invariant.3 in (
      tt,
      tt,
      rw c.in_ok-push.ensures.items (member_given _ c.loop-name.entries.items c.in-Some.name c.in_ok-into_value.field-0
          (json_view c.in-Some.member) (json_members c.next.new.self) so_far c.in_ok-into_value.ensures),
      rw c.in_ok-push.ensures.items (names ∙ keys_more c.loop-name.entries.items c.in-Some.name c.in_ok-into_value.field-0
          (keys_of c.next.new.self)),
    )

pub into_members-returns-in_err-into_value : goal.into_members-returns-in_err-into_value
into_members-returns-in_err-into_value t c =
    let left : c.loop-name.name-iterator ≡ (c.in-Some.name, c.in-Some.member) ∷ c.next.new.self = search rules in
    let so_far = rw left at c.loop-name.invariant.2 in
    refuses _ _ c.in_err-into_value.field-0.0 _ (search rules)
    (member_refusal _ (map entry_view c.loop-name.entries.items) _ (json_view c.in-Some.member)
    (json_members c.next.new.self) _ so_far c.in_err-into_value.ensures)

pub into_members-returns : goal.into_members-returns
into_members-returns t c =
    let none : c.loop-name.name-iterator ≡ [] = search rules in
    members_done _ c.loop-name.entries.items (rw none at c.loop-name.invariant.2) ∙ ap Ok (sym c.in_ok-object_in_order.ensures)
