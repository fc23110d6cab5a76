use Rattle.std.proofs.Common.{◌≡◌, ◌+◌, ◌∷◌, [], drop, map, string_bytes, refl, sym, ap, subst, ◌∙◌, inl, inr, arith, rules}
use Rattle.std.proofs.lemmas.List.{drop_all, drop_more}
use Rattle.liquid_error.specs.meaning.Refusal.{Refusal}
use Rattle.liquid_value.specs.meaning.Tree.{Items, no_items, Members, no_members}
use Rattle.liquid_value.specs.meaning.View.{view, items_view, members_view}
use Rattle.liquid_value.proofs.Entries.{members_view-insert_entry}
use Rattle.toml.specs.View.{view as toml_view, items_view as toml_items, members_view as toml_members}
use Rattle.page_site.specs.meaning.data_files.Tables.{ItemsGiven, MembersGiven, Refused, ItemsRefused, MembersRefused}
use Rattle.page_site.proofs.Walk.{joined, joined_all, member_step, item_step, refused_within, err_refuses}
use Rattle.page_site.proofs.data_files.tables.+convert.Goals as goal

pub object_of_table-loop-key-init : goal.object_of_table-loop-key-init
object_of_table-loop-key-init t c =
    let start : c.into_iter-key-iterator.result ≡ c.args.table.now.entries = search rules in
    let none : c.new-object.result.entries ≡ [] = search rules in
    rw (start, none) (record { given = λ ts h. h; refused = λ r h. h })

pub object_of_table-loop-key-preserved : goal.object_of_table-loop-key-preserved
object_of_table-loop-key-preserved t c =
    let l = c.loop-key in
    let left = c.next.new.self in
    let here : l.key-iterator ≡ (c.in-Some.key.now, c.in-Some.member.now) ∷ left = c.in-Some.ensures.steps in
    let k = string_bytes c.in-Some.key.now in
    let named : string_bytes c.in_ok-name.name ≡ k = c.in_ok-name.ensures.cases in
    let inserted = ap members_view c.in_ok-insert.ensures.entries ∙ members_view-insert_entry l.object.entries c.in_ok-name.name
    c.in_ok-value.value ∙ rw named refl in
    let all = toml_members c.args.table.now.entries in
    record {
      given = member_step (MembersGiven all no_members) k (toml_view c.in-Some.member.now) (toml_members left)
          (members_view l.object.entries) _ (view c.in_ok-value.value)
          (subst (λ es. (ts : Members) → MembersGiven (toml_members es) (members_view l.object.entries) ts → MembersGiven all no_members ts)
          here
          l.invariant.given) c.in_ok-value.ensures.given inserted;
      refused = λ r h. (subst (λ es. (r : Refusal) → MembersRefused (toml_members es) r → MembersRefused all r) here l.invariant.refused) r
          (inr h);
    }

pub object_of_table-returns-in_err-value : goal.object_of_table-returns-in_err-value
object_of_table-returns-in_err-value t c =
    let all = toml_members c.args.table.now.entries in
    let here : c.loop-key.key-iterator ≡ (c.in-Some.key.now, c.in-Some.member.now) ∷ c.next.new.self = c.in-Some.ensures.steps in
    let wider = subst (λ es. (r : Refusal) → MembersRefused (toml_members es) r → MembersRefused all r) here
    c.loop-key.invariant.refused in
    let refused = refused_within _ (Refused (toml_view c.in-Some.member.now)) (MembersRefused all) (λ r h. wider r (inl h))
    c.in_err-value.ensures.refused in
    let both = err_refuses c.from_residual-in_err-value.result c.in_err-value.field-0.0
    (λ object. MembersGiven all no_members (members_view object.entries)) (MembersRefused all) (search rules) refused in
    record { given = both.0; refused = both.1 }

pub object_of_table-returns : goal.object_of_table-returns
object_of_table-returns t c =
    let all = toml_members c.args.table.now.entries in
    let found = members_view c.loop-key.object.entries in
    let none : c.loop-key.key-iterator ≡ [] = c.in-None.ensures.steps.0 in
    let given = subst (λ es. (ts : Members) → MembersGiven (toml_members es) found ts → MembersGiven all no_members ts) none
    c.loop-key.invariant.given in
    record { given = given found refl; refused = tt }

pub array_of-loop-item-init : goal.array_of-loop-item-init
array_of-loop-item-init t c = rw c.in_ok-values.ensures.items (record { given = λ ts h. h; refused = λ r h. h })

pub array_of-loop-item-preserved : goal.array_of-loop-item-preserved
array_of-loop-item-preserved t c =
    let l = c.loop-item in
    let xs = c.deref-item-items.result.now in
    let x = c.item-item.result in
    let later = drop (l.item-index + 1) xs in
    let here : drop l.item-index xs ≡ x ∷ later = drop_more xs l.item-index x (omega arith) ∙ ap (λ y. y ∷ later) (sym c.item-item.is) in
    let given = subst (λ ys. (ts : Items) → ItemsGiven (toml_items ys) ts
    → ItemsGiven (toml_items xs) (joined (map view l.values.items) ts))
    here l.invariant.given in
    let wider = subst (λ ys. (r : Refusal) → ItemsRefused (toml_items ys) r → ItemsRefused (toml_items xs) r) here l.invariant.refused in
    rw c.in_ok-push.ensures.items (record {
      given = item_step (λ ts. ItemsGiven (toml_items xs) ts) (toml_view x) (toml_items later) l.values.items
          c.in_ok-value_of.field-0 given c.in_ok-value_of.ensures.given;
      refused = λ r h. wider r (inr h);
    })

pub array_of-returns-in_err-value_of : goal.array_of-returns-in_err-value_of
array_of-returns-in_err-value_of t c =
    let l = c.loop-item in
    let xs = c.deref-item-items.result.now in
    let x = c.item-item.result in
    let later = drop (l.item-index + 1) xs in
    let here : drop l.item-index xs ≡ x ∷ later = drop_more xs l.item-index x (omega arith) ∙ ap (λ y. y ∷ later) (sym c.item-item.is) in
    let wider = subst (λ ys. (r : Refusal) → ItemsRefused (toml_items ys) r → ItemsRefused (toml_items xs) r) here l.invariant.refused in
    let all = toml_items c.args.items.now.items in
    let refused = refused_within _ (Refused (toml_view x)) (ItemsRefused all)
    (λ r h. subst (λ ys. ItemsRefused (toml_items ys) r) c.deref-item-items.ensures.value (wider r (inl h)))
    c.in_err-value_of.ensures.refused in
    let both = err_refuses c.from_residual-in_err-value_of.result c.in_err-value_of.field-0.0
    (λ values. ItemsGiven all (items_view values.items)) (ItemsRefused all) (search rules) refused in
    record { given = both.0; refused = both.1 }

pub array_of-returns : goal.array_of-returns
array_of-returns t c =
    let l = c.loop-item in
    let xs = c.deref-item-items.result.now in
    let none : drop l.item-index xs ≡ [] = drop_all l.item-index xs (omega arith) in
    let given = subst (λ ys. (ts : Items) → ItemsGiven (toml_items ys) ts
    → ItemsGiven (toml_items xs) (joined (map view l.values.items) ts))
    none l.invariant.given in
    record {
      given = subst (λ ys. ItemsGiven (toml_items ys) (items_view l.values.items)) c.deref-item-items.ensures.value
          (subst (ItemsGiven (toml_items xs)) (joined_all (map view l.values.items)) (given no_items refl));
      refused = tt;
    }
