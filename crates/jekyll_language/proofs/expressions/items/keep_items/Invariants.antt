use Rattle.std.proofs.Common.{◌≡◌, drop, map}
use Rattle.liquid_value.specs.meaning.View.{view as tree_of}
use Rattle.liquid_runtime.specs.meaning.Erased.{erase}
use Rattle.liquid_filters.proofs.ArgumentSteps.{following}
use Rattle.jekyll_language.specs.meaning.expressions.Items.{kept}
use Rattle.jekyll_language.specs.meaning.expressions.Kinds.{call_of}
use Rattle.jekyll_language.proofs.expressions.items.keep_items.Given as goal

abbrev pub invariant-loop-item : goal.invariant-loop-item
invariant-loop-item g l =
    let seen = erase (g.R.Runtime.view l.runtime) in
    kept (call_of l.call) seen (map (λ r. tree_of r.now) l.items) ≡ following (map tree_of l.kept.items)
    (kept (call_of l.call) seen (map (λ r. tree_of r.now) (drop l.item-index l.items)))
