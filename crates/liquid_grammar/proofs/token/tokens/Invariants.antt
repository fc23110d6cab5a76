use Rattle.std.proofs.Common.{◌≡◌, ◌≤◌, length}
use denote.Text.{Utf8}
use denote.Shadow.{shadow}
use Rattle.liquid_grammar.specs.meaning.Faults.{first_fault, token_fault}
use Rattle.liquid_grammar.specs.meaning.Meanings.{scan, faults_of}
use Rattle.liquid_grammar.specs.steps.TokenSteps.{repeated, token}
use Rattle.liquid_grammar.specs.steps.Steps.{right, white}
use Rattle.liquid_grammar.specs.steps.BracketSteps.{adds}
use Rattle.liquid_grammar.proofs.token.tokens.Given as goal

abbrev pub invariant-tokens : goal.invariant-tokens
invariant-tokens l =
    shadow (Utf8 l.rest)
    × record {
      same : scan (first_fault token_fault) (repeated (right white token) l.s) ≡ adds (faults_of l.fault)
          (scan (first_fault token_fault) (repeated (right white token) l.rest));
      within : length l.rest ≤ length l.s;
    }

abbrev pub decreases-tokens : goal.decreases-tokens
decreases-tokens l = length l.rest
