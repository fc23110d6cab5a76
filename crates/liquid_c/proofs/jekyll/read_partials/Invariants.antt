use Rattle.std.proofs.Common.{◌≡◌, ◌++◌, map, drop}
use Rattle.liquid_pages.specs.meaning.Shown.{bytes_of_partial}
use Rattle.liquid_c.specs.meaning.Jekyll.{partial_as_read}
use Rattle.liquid_c.specs.steps.Jekyll.{partial_held}
use Rattle.liquid_c.proofs.jekyll.read_partials.Given as goal

abbrev pub invariant-loop-partial : goal.invariant-loop-partial
invariant-loop-partial l =
    map partial_held l.read.items ++ map partial_as_read (map bytes_of_partial (drop l.partial-index l.fn.partials))
    ≡ map partial_as_read (map bytes_of_partial l.fn.partials)
