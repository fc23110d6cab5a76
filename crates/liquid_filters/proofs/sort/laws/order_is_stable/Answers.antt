use Rattle.std.proofs.Common.{map}
use Rattle.std.proofs.lemmas.List.Sorted.{ranks_by}
use Rattle.liquid_value.specs.meaning.Tree.{Tree}
use Rattle.liquid_filters.specs.meaning.list.Entries.{entry_view}
use Rattle.liquid_filters.specs.meaning.sort.Order.{comes_before}
use Rattle.liquid_filters.proofs.KeyOrder.{key_cmp_total}
use Rattle.liquid_filters.proofs.StableOrder.{in_order-moves, in_order-sorted, in_order-stable}
use Rattle.liquid_filters.proofs.sort.laws.order_is_stable.Goals as goal

pub returns : goal.returns
returns c =
    let es = map entry_view c.args.entries.now in
    let order = ranks_by key_cmp_total (λ (e : Tree × Tree). e.0) in
    record {
      moves = in_order-moves comes_before order es;
      sorted = in_order-sorted comes_before order es;
      stable = in_order-stable comes_before order es;
    }
