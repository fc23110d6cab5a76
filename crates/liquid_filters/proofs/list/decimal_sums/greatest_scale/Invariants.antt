use Rattle.std.proofs.Common.{◌≡◌, ◌≤◌, map, drop}
use Rattle.std.specs.Prelude.{max}
use Rattle.liquid_decimals.specs.meaning.Dec.{dec}
use Rattle.liquid_filters.specs.meaning.list.DecimalSums.{greatest_scale}
use Rattle.liquid_filters.proofs.list.decimal_sums.greatest_scale.Given as goal

abbrev pub invariant-loop-decimal : goal.invariant-loop-decimal
invariant-loop-decimal l =
    record {
      value : greatest_scale (map dec l.decimals) ≡ max l.greatest (greatest_scale (map dec (drop l.decimal-index l.decimals)));
      limit : l.greatest ≤ 18;
    }
