use Rattle.std.proofs.Common.{Option, ap, sym, ◌∙◌, arith, rules, refl}
use Rattle.liquid_grammar.specs.meaning.Faults.{Fault, first_fault, argument_fault}
use Rattle.liquid_grammar.specs.meaning.Meanings.{scan, faults_of, Scanned}
use Rattle.liquid_grammar.specs.steps.TokenSteps.{repeated, following, argument}
use Rattle.liquid_grammar.specs.steps.BracketSteps.{adds}
use Rattle.liquid_grammar.proofs.FlatBrackets.{adds_adds, fault_added, adds_found}
use Rattle.liquid_grammar.proofs.Scanning.{repeated_scan_more, repeated_scan_end}
use Rattle.liquid_grammar.proofs.TokenExact.{exact-following, shrinks-following, exact-argument}
use Rattle.liquid_grammar.proofs.filter.more_arguments.Goals as goal

pub arguments-preserved : goal.arguments-preserved
arguments-preserved c =
    let kept = c.arguments.invariant.1 in
    let shorter = c.in-Some.ensures.shorter in
    let after : Option Scanned = scan (first_fault argument_fault) (repeated (following 44 argument) c.in-Some.after.now) in (
      search rules,
      record {
        same = kept.same
            ∙ ap (adds (faults_of c.arguments.fault))
            (repeated_scan_more (exact-following 44 exact-argument) (shrinks-following 44 exact-argument) argument_fault _ _
            (faults_of c.in-Some.found) c.in-Some.ensures.value)
            ∙ adds_adds (faults_of c.arguments.fault) (faults_of c.in-Some.found) after
            ∙ ap (λ (f : Option Fault). adds f after) (fault_added c.arguments.fault c.in-Some.found _ _ c.or-fault.ensures refl);
        within = omega (arith, shorter, kept.within);
      },
    )

pub returns-clause-value : goal.returns-clause-value
returns-clause-value c =
    let kept = c.arguments.invariant.1 in
    sym (kept.same ∙ ap (adds (faults_of c.arguments.fault))
    (repeated_scan_end (following 44 argument) argument_fault c.arguments.rest.now c.in_default.ensures.value) ∙ adds_found _ _)
