-- One more filter is registered after the first ones.
use Rattle.std.proofs.Common.{◌≡◌, ℕ, zero, suc, ◌+◌, ◌<◌, List, [], ◌∷◌, ap, ◌∙◌, length, arith}
use Rattle.std.specs.Prelude.{slice_index_or, take}
use Rattle.liquid_runtime.specs.meaning.Maps.{NameMap}
use Rattle.liquid_filters.specs.declared.plugin.FilterPlugin.{FilterPlugin}
use Rattle.liquid_filters.specs.meaning.Registered.{register, registered}
use Rattle.liquid_filters.specs.meaning.Sense.{FilterSense}

module _ {K : Type 0} (sense : K → FilterSense) where
  with_next : (before : NameMap (FilterPlugin K)) (kinds : List K) (at : ℕ) (kind : K) → at < length kinds
      → kind ≡ slice_index_or kinds at kind
      → register sense (registered sense before (take at kinds)) kind ≡ registered sense before (take (suc at) kinds)
  with_next before [] at kind below is = absurd (omega arith)
  with_next before (k ∷ kinds) zero kind below is = ap (register sense before) is
  with_next before (k ∷ kinds) (suc at) kind below is = with_next (register sense before k) kinds at kind (omega arith) is

  -- the first ones and the next one are the first ones up to it
  pub one_more : (before : NameMap (FilterPlugin K)) (kinds : List K) (at : ℕ) (kind : K) → at < length kinds
      → kind ≡ slice_index_or kinds at kind
      → register sense (registered sense before (take at kinds)) kind ≡ registered sense before (take (at + 1) kinds)
  one_more before kinds at kind below is =
      with_next before kinds at kind below is ∙ ap (λ n. registered sense before (take n kinds)) {x = suc at} (omega arith)
