use Rattle.std.proofs.Common.{◌≡◌, drop, map}
use Rattle.liquid_value.specs.meaning.View.{view as tree_of}
use Rattle.liquid_runtime.specs.meaning.Erased.{erase}
use Rattle.liquid_filters.specs.meaning.list.Entries.{entry_view}
use Rattle.liquid_filters.proofs.ArgumentSteps.{following}
use Rattle.jekyll_language.specs.meaning.expressions.Groups.{call_of, keyed}
use Rattle.jekyll_language.proofs.expressions.grouping.with_keys.Given as goal

abbrev pub invariant-loop-item : goal.invariant-loop-item
invariant-loop-item g l =
    let key = keyed g.X.Filter.means (call_of g.X.Meant.shape l.call) (erase (g.R.Runtime.view l.runtime)) in
    key (map (λ r. tree_of r.now) l.items) ≡ following (map entry_view l.entries.items)
    (key (map (λ r. tree_of r.now) (drop l.item-index l.items)))
