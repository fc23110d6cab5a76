use Rattle.std.proofs.Common.{◌≡◌, ◌≤◌, length}
use denote.Text.{Utf8}
use denote.Shadow.{shadow}
use Rattle.liquid_grammar.specs.meaning.Faults.{first_fault, filter_fault}
use Rattle.liquid_grammar.specs.meaning.Meanings.{scan, faults_of}
use Rattle.liquid_grammar.specs.steps.TokenSteps.{repeated, following, filter}
use Rattle.liquid_grammar.specs.steps.BracketSteps.{adds}
use Rattle.liquid_grammar.proofs.filter.filters.Given as goal

abbrev pub invariant-filters : goal.invariant-filters
invariant-filters l =
    shadow (Utf8 l.rest)
    × record {
      same : scan (first_fault filter_fault) (repeated (following 124 filter) l.s) ≡ adds (faults_of l.fault)
          (scan (first_fault filter_fault) (repeated (following 124 filter) l.rest));
      within : length l.rest ≤ length l.s;
    }

abbrev pub decreases-filters : goal.decreases-filters
decreases-filters l = length l.rest
