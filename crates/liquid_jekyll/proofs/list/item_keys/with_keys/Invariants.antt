use Rattle.std.proofs.Common.{◌≡◌, drop, map}
use Rattle.liquid_value.specs.meaning.View.{view as tree_of}
use Rattle.liquid_filters.specs.meaning.list.Entries.{entry_view}
use Rattle.liquid_filters.proofs.ListSteps.{after}
use Rattle.liquid_jekyll.specs.meaning.list.ItemKeys.{keyed}
use Rattle.liquid_jekyll.proofs.list.item_keys.with_keys.Given as goal

abbrev pub invariant-loop-item : goal.invariant-loop-item
invariant-loop-item l =
    keyed l.path (map (λ r. tree_of r.now) l.items) ≡ after (map entry_view l.entries.items)
    (keyed l.path (map (λ r. tree_of r.now) (drop l.item-index l.items)))
