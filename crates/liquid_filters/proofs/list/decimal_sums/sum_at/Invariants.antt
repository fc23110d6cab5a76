use Rattle.std.proofs.Common.{◌≡◌, ◌+ℤ◌, ◌*ℤ◌, ◌≤ℤ◌, ◌*◌, ◌^◌, neg_ℤ, pos, map, drop}
use Rattle.liquid_decimals.specs.meaning.Dec.{dec}
use Rattle.liquid_filters.specs.meaning.list.DecimalSums.{sum_at}
use Rattle.liquid_filters.proofs.list.decimal_sums.sum_at.Given as goal

abbrev pub invariant-loop-decimal : goal.invariant-loop-decimal
invariant-loop-decimal l =
    record {
      value : sum_at l.scale (map dec l.decimals) ≡ l.upper *ℤ pos (2 ^ 62) +ℤ l.lower
          +ℤ sum_at l.scale (map dec (drop l.decimal-index l.decimals));
      upper_above : neg_ℤ (pos (l.decimal-index * 2 ^ 62)) ≤ℤ l.upper;
      upper_below : l.upper ≤ℤ pos (l.decimal-index * 2 ^ 62);
      lower_above : pos 0 ≤ℤ l.lower;
      lower_below : l.lower ≤ℤ pos (l.decimal-index * 2 ^ 62);
    }
