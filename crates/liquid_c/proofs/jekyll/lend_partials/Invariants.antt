use Rattle.std.proofs.Common.{◌≡◌, ◌++◌, map, drop}
use Rattle.liquid_pages.specs.meaning.Shown.{bytes_of_partial}
use Rattle.liquid_c.specs.steps.Jekyll.{partial_held}
use Rattle.liquid_c.proofs.jekyll.lend_partials.Given as goal

abbrev pub invariant-loop-partial : goal.invariant-loop-partial
invariant-loop-partial l =
    map bytes_of_partial l.lent.items ++ map partial_held (drop l.partial-index l.fn.partials) ≡ map partial_held l.fn.partials
