use Rattle.std.proofs.Common.{◌≡◌, drop, map}
use Rattle.std.specs.Prelude.{option_map}
use Rattle.std.specs.Cow.{cow_str_bytes}
use Rattle.liquid_decimals.specs.meaning.Dec.{dec}
use Rattle.liquid_value.specs.meaning.View.{view as tree_of}
use Rattle.liquid_filters.specs.meaning.list.Sums.{numbers}
use Rattle.liquid_filters.proofs.ListSteps.{after}
use Rattle.liquid_filters.proofs.list.sums.numbers.Given as goal

abbrev pub invariant-loop-item : goal.invariant-loop-item
invariant-loop-item l =
    let name = option_map (λ n. cow_str_bytes n.now) l.name in
    numbers name (map (λ r. tree_of r.now) l.items) ≡ after (map dec l.numbers.items)
    (numbers name (map (λ r. tree_of r.now) (drop l.item-index l.items)))
