use Rattle.std.proofs.Common.{◌≡◌, drop, map}
use Rattle.std.specs.FinMap.{empty}
use Rattle.liquid_pages.specs.meaning.Shown.{bytes_of_partial, partials_read}
use Rattle.liquid_pages.proofs.gather.partials_in.Given as goal

abbrev pub invariant-loop-place : goal.invariant-loop-place
invariant-loop-place l =
    partials_read 0 (map bytes_of_partial l.fn.partials) empty ≡ partials_read l.place
    (map bytes_of_partial (drop l.place l.fn.partials)) l.source
