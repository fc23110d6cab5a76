use Rattle.std.proofs.Common.{◌≡◌, ◌+◌, ◌∷◌, [], drop, map, string_bytes, sym, ap, ◌∙◌, arith, rules}
use Rattle.std.proofs.lemmas.List.{drop_all, drop_more}
use Rattle.json.specs.Value.{value_view as json_view, items_view as json_items, members_view as json_members}
use Rattle.liquid_value.specs.meaning.Tree.{no_members}
use Rattle.liquid_value.specs.meaning.View.{view, members_view}
use Rattle.liquid_value.proofs.Entries.{members_view-insert_entry}
use Rattle.liquid_json.specs.meaning.decimals.Given.{items_given, members_given}
use Rattle.liquid_json.proofs.DecimalWalk.{
  after_items,
  no_item_yet,
  item_given,
  item_refusal,
  items_done,
  member_given,
  member_refusal,
  refuses,
}
use Rattle.liquid_json.proofs.decimals.convert.+convert.Goals as goal

pub convert_items-loop-item-init : goal.convert_items-loop-item-init
convert_items-loop-item-init t c =
    rw c.in_ok-values.ensures.items (no_item_yet (items_given (json_items c.deref-item-items.result.now)))

pub convert_items-loop-item-preserved : goal.convert_items-loop-item-preserved
convert_items-loop-item-preserved t c =
    let l = c.loop-item in
    let xs = c.deref-item-items.result.now in
    let x = c.item-item.result in
    let later = drop (l.item-index + 1) xs in
    let here : drop l.item-index xs ≡ x ∷ later = drop_more xs l.item-index x (omega arith) ∙ ap (λ y. y ∷ later) (sym c.item-item.is) in
    let so_far = l.invariant ∙ ap (λ ys. after_items (map view l.values.items) (items_given (json_items ys))) here in
    rw c.in_ok-push.ensures.items (item_given _ l.values.items c.in_ok-convert_value.field-0 (json_view x) (json_items later) so_far
    c.in_ok-convert_value.ensures)

pub convert_items-returns-in_err-convert_value : goal.convert_items-returns-in_err-convert_value
convert_items-returns-in_err-convert_value t c =
    let l = c.loop-item in
    let xs = c.deref-item-items.result.now in
    let x = c.item-item.result in
    let later = drop (l.item-index + 1) xs in
    let here : drop l.item-index xs ≡ x ∷ later = drop_more xs l.item-index x (omega arith) ∙ ap (λ y. y ∷ later) (sym c.item-item.is) in
    let so_far =
    ap (λ ys. items_given (json_items ys)) (sym c.deref-item-items.ensures.value) ∙ l.invariant
    ∙ ap (λ ys. after_items (map view l.values.items) (items_given (json_items ys))) here in
    refuses _ _ c.in_err-convert_value.field-0.0 _ (search rules)
    (item_refusal _ (map view l.values.items) (json_view x) (json_items later) _ so_far c.in_err-convert_value.ensures)

pub convert_items-returns : goal.convert_items-returns
convert_items-returns t c =
    let l = c.loop-item in
    let xs = c.deref-item-items.result.now in
    let none : drop l.item-index xs ≡ [] = drop_all l.item-index xs (omega arith) in
    items_done _ l.values.items
    (ap (λ ys. items_given (json_items ys)) (sym c.deref-item-items.ensures.value) ∙ l.invariant
    ∙ ap (λ ys. after_items (map view l.values.items) (items_given (json_items ys))) none)

pub convert_members-loop-member-preserved : goal.convert_members-loop-member-preserved
convert_members-loop-member-preserved t c =
    let l = c.loop-member in
    let xs = c.deref-member-items.result.now in
    let x = c.member-item.result in
    let later = drop (l.member-index + 1) xs in
    let here : drop l.member-index xs ≡ x ∷ later = drop_more xs l.member-index x (omega arith)
    ∙ ap (λ y. y ∷ later) (sym c.member-item.is) in
    let so_far = l.invariant ∙ ap (λ ys. members_given (json_members ys) (members_view l.object.entries)) here in
    let inserted = ap members_view c.in_ok-insert.ensures.entries ∙ members_view-insert_entry l.object.entries c.in_ok-name.name
    c.in_ok-value.value in
    let named : string_bytes c.in_ok-name.name ≡ x.0.now = search rules in
    rw (inserted, named) (member_given _ (members_view l.object.entries) x.0.now (view c.in_ok-value.value) (json_view x.1)
    (json_members later) so_far c.in_ok-value.ensures)
