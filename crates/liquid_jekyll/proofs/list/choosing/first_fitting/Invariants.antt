use Rattle.std.proofs.Common.{◌≡◌, drop, map}
use Rattle.liquid_value.specs.meaning.View.{view as tree_of}
use Rattle.liquid_filters.specs.meaning.list.Entries.{entry_view}
use Rattle.liquid_jekyll.specs.meaning.list.Choosing.{first_having, fits}
use Rattle.liquid_jekyll.proofs.list.choosing.first_fitting.Given as goal

abbrev pub invariant-loop-entry : goal.invariant-loop-entry
invariant-loop-entry l =
    first_having (fits (tree_of l.wanted)) (map entry_view l.entries) ≡ first_having (fits (tree_of l.wanted))
    (map entry_view (drop l.entry-index l.entries))
