use Rattle.std.proofs.Common.{Bool, map, ap, ◌∙◌, rules}
use Rattle.std.specs.Ordering.{is_lt}
use Rattle.std.proofs.lemmas.Fn.{always_returns_same}
use Rattle.std.proofs.lemmas.List.Sorted.{ranks_by}
use Rattle.liquid_filters.specs.declared.sort.numbers.Numbered.{Numbered}
use Rattle.liquid_filters.specs.meaning.sort.Numbered.{numbered_view}
use Rattle.liquid_filters.specs.meaning.sort.Numbers.{has_lesser_number}
use Rattle.liquid_filters.proofs.NumberOrder.{decimal_cmp_total, decimal_cmp}
use Rattle.liquid_filters.proofs.StableOrder.{in_order-from_sort, in_order-map}
use Rattle.liquid_filters.proofs.Results.{OnOk-map}
use Rattle.liquid_filters.proofs.sort.numbers.sort_numbers.Goals as goal

abbrev by_number : Numbered → Numbered → Bool
by_number a b = is_lt (decimal_cmp a.number b.number)

pub returns : goal.returns
returns c =
    let order = ranks_by decimal_cmp_total (λ (a : Numbered). a.number) in
    let stable = c.sort_by.ensures.stable by_number order (always_returns_same _ _ _ (λ a r f' k. search rules)) in
    OnOk-map c.sort_by.result
    (λ sorted. ap (map numbered_view) (in_order-from_sort by_number order _ _
    (sorted by_number order (always_returns_same _ _ _ (λ a r f' k. search rules))) stable)
    ∙ in_order-map numbered_view has_lesser_number c.args.numbered.now.items)
    c.sort_by.ensures.sorted
