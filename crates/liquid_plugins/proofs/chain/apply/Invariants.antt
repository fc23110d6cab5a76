use Rattle.std.proofs.Common.{◌≡◌, drop, map}
use Rattle.liquid_value.specs.meaning.Cow.{cow_view}
use Rattle.liquid_runtime.specs.meaning.Erased.{erase}
use Rattle.liquid_plugins.specs.meaning.Chain.{filtered}
use Rattle.liquid_plugins.proofs.chain.apply.Given as goal

abbrev pub invariant-loop-filter : goal.invariant-loop-filter
invariant-loop-filter g l =
    let seen = erase (g.R.Runtime.view l.runtime) in
    filtered g.X.Filter.means seen (map g.X.Meant.shape l.filters) (cow_view l.fn.value)
    ≡ filtered g.X.Filter.means seen (map g.X.Meant.shape (drop l.filter-index l.filters)) (cow_view l.current)
