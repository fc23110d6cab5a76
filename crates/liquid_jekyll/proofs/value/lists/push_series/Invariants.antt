use Rattle.std.proofs.Common.{◌≡◌, ◌++◌, drop, map}
use Rattle.std.specs.Prelude.{string_bytes}
use Rattle.std.specs.List.{flat_map}
use Rattle.liquid_value.specs.meaning.View.{view as tree_of}
use Rattle.liquid_jekyll.proofs.SeriesLemmas.{listed}
use Rattle.liquid_jekyll.proofs.value.lists.push_series.Given as goal

abbrev pub invariant-loop-item : goal.invariant-loop-item
invariant-loop-item l =
    string_bytes l.text ++ flat_map listed (map (λ r. tree_of r.now) (drop l.item-index l.others)) ≡ string_bytes l.initial.text
    ++ flat_map listed (map (λ r. tree_of r.now) l.others)
