use Rattle.std.proofs.Common.{◌≡◌, ◌≤◌, length}
use denote.Text.{Utf8}
use denote.Shadow.{shadow}
use Rattle.liquid_grammar.specs.meaning.Values.{gather}
use Rattle.liquid_grammar.specs.meaning.Faults.{indexes_fault}
use Rattle.liquid_grammar.specs.meaning.Meanings.{scan, faults_of}
use Rattle.liquid_grammar.specs.steps.BracketSteps.{adds, indexes}
use Rattle.liquid_grammar.proofs.value.indexes.Given as goal

abbrev pub invariant-indexes : goal.invariant-indexes
invariant-indexes l =
    shadow (Utf8 l.rest)
    × record {
      same : scan (λ x. indexes_fault 0 (gather x)) (indexes l.s) ≡ adds (faults_of l.fault)
          (scan (λ x. indexes_fault 0 (gather x)) (indexes l.rest));
      within : length l.rest ≤ length l.s;
    }

abbrev pub decreases-indexes : goal.decreases-indexes
decreases-indexes l = length l.rest
