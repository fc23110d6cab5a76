use Rattle.std.proofs.Common.{Option, ap, sym, ◌∙◌, arith, rules, refl}
use Rattle.liquid_grammar.specs.meaning.Faults.{Fault}
use Rattle.liquid_grammar.specs.meaning.Meanings.{scan, faults_of, Scanned}
use Rattle.liquid_grammar.specs.steps.BracketSteps.{adds, indexes}
use Rattle.liquid_grammar.proofs.FlatBrackets.{adds_adds, fault_added, adds_found}
use Rattle.liquid_grammar.proofs.ValueScan.{list_fault, indexes_more, indexes_end}
use Rattle.liquid_grammar.proofs.value.indexes.Goals as goal

pub indexes-preserved : goal.indexes-preserved
indexes-preserved c =
    let kept = c.indexes.invariant.1 in
    let shorter = c.in-Some.ensures.shorter in
    let after : Option Scanned = scan list_fault (indexes c.in-Some.after.now) in (
      search rules,
      record {
        same = kept.same ∙ ap (adds (faults_of c.indexes.fault)) (indexes_more _ _ (faults_of c.in-Some.found) c.in-Some.ensures.value)
            ∙ adds_adds (faults_of c.indexes.fault) (faults_of c.in-Some.found) after
            ∙ ap (λ (f : Option Fault). adds f after) (fault_added c.indexes.fault c.in-Some.found _ _ c.or-fault.ensures refl);
        within = omega (arith, shorter, kept.within);
      },
    )

pub returns-clause-value : goal.returns-clause-value
returns-clause-value c =
    let kept = c.indexes.invariant.1 in
    sym (kept.same ∙ ap (adds (faults_of c.indexes.fault)) (indexes_end c.indexes.rest.now c.in_default.ensures.value) ∙ adds_found _ _)
