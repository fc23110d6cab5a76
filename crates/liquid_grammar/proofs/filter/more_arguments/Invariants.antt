use Rattle.std.proofs.Common.{◌≡◌, ◌≤◌, length}
use denote.Text.{Utf8}
use denote.Shadow.{shadow}
use Rattle.liquid_grammar.specs.meaning.Faults.{first_fault, argument_fault}
use Rattle.liquid_grammar.specs.meaning.Meanings.{scan, faults_of}
use Rattle.liquid_grammar.specs.steps.TokenSteps.{repeated, following, argument}
use Rattle.liquid_grammar.specs.steps.BracketSteps.{adds}
use Rattle.liquid_grammar.proofs.filter.more_arguments.Given as goal

abbrev pub invariant-arguments : goal.invariant-arguments
invariant-arguments l =
    shadow (Utf8 l.rest)
    × record {
      same : scan (first_fault argument_fault) (repeated (following 44 argument) l.s) ≡ adds (faults_of l.fault)
          (scan (first_fault argument_fault) (repeated (following 44 argument) l.rest));
      within : length l.rest ≤ length l.s;
    }

abbrev pub decreases-arguments : goal.decreases-arguments
decreases-arguments l = length l.rest
