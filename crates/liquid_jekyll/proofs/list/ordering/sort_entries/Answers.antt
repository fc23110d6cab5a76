use Rattle.std.proofs.Common.{Bool, map, ap, ◌∙◌, rules}
use Rattle.std.specs.Ordering.{is_lt}
use Rattle.std.proofs.lemmas.Fn.{always_returns_same}
use Rattle.std.proofs.lemmas.List.Sorted.{ranks_by}
use Rattle.liquid_value.specs.meaning.Cow.{cow_view}
use Rattle.liquid_filters.specs.declared.list.keys.Entry.{Entry}
use Rattle.liquid_filters.specs.meaning.list.Entries.{entry_view}
use Rattle.liquid_filters.specs.meaning.sort.Order.{comes_before, key_cmp}
use Rattle.liquid_filters.proofs.KeyOrder.{key_cmp_total}
use Rattle.liquid_filters.proofs.StableOrder.{in_order-from_sort, in_order-map}
use Rattle.liquid_filters.proofs.Results.{OnOk-map}
use Rattle.liquid_jekyll.proofs.list.ordering.sort_entries.Goals as goal

abbrev by_key : Entry → Entry → Bool
by_key a b = is_lt (key_cmp (cow_view a.key) (cow_view b.key))

pub returns : goal.returns
returns c =
    let order = ranks_by key_cmp_total (λ (a : Entry). cow_view a.key) in
    let stable = c.sort_by.ensures.stable by_key order (always_returns_same _ _ _ (λ a r f' k. search rules)) in
    OnOk-map c.sort_by.result
    (λ sorted. ap (map entry_view) (in_order-from_sort by_key order _ _
    (sorted by_key order (always_returns_same _ _ _ (λ a r f' k. search rules))) stable)
    ∙ in_order-map entry_view comes_before c.args.entries.now.items)
    c.sort_by.ensures.sorted
