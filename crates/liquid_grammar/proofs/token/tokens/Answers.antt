use Rattle.std.proofs.Common.{Option, ap, sym, ◌∙◌, arith, rules, refl}
use Rattle.liquid_grammar.specs.meaning.Faults.{Fault, first_fault, token_fault}
use Rattle.liquid_grammar.specs.meaning.Meanings.{scan, faults_of, Scanned}
use Rattle.liquid_grammar.specs.steps.TokenSteps.{repeated, token}
use Rattle.liquid_grammar.specs.steps.Steps.{right, white}
use Rattle.liquid_grammar.specs.steps.BracketSteps.{adds}
use Rattle.liquid_grammar.proofs.FlatBrackets.{adds_adds, fault_added, adds_found}
use Rattle.liquid_grammar.proofs.Scanning.{repeated_scan_more, repeated_scan_end}
use Rattle.liquid_grammar.proofs.TokenExact.{exact-next_token, shrinks-next_token}
use Rattle.liquid_grammar.proofs.token.tokens.Goals as goal

pub tokens-preserved : goal.tokens-preserved
tokens-preserved c =
    let kept = c.tokens.invariant.1 in
    let shorter = c.in-Some.ensures.shorter in
    let after : Option Scanned = scan (first_fault token_fault) (repeated (right white token) c.in-Some.after.now) in (
      search rules,
      record {
        same = kept.same
            ∙ ap (adds (faults_of c.tokens.fault)) (repeated_scan_more exact-next_token shrinks-next_token token_fault _ _
            (faults_of c.in-Some.found) c.in-Some.ensures.value)
            ∙ adds_adds (faults_of c.tokens.fault) (faults_of c.in-Some.found) after
            ∙ ap (λ (f : Option Fault). adds f after) (fault_added c.tokens.fault c.in-Some.found _ _ c.or-fault.ensures refl);
        within = omega (arith, shorter, kept.within);
      },
    )

pub returns-clause-value : goal.returns-clause-value
returns-clause-value c =
    let kept = c.tokens.invariant.1 in
    sym (kept.same ∙ ap (adds (faults_of c.tokens.fault))
    (repeated_scan_end (right white token) token_fault c.tokens.rest.now c.in_default.ensures.value) ∙ adds_found _ _)
