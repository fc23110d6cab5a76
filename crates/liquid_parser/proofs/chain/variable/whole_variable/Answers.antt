use Rattle.std.proofs.Common.{◌≡◌, [], None, sym, ap, ◌∙◌, arith}
use Rattle.std.proofs.lemmas.Option.{same_Some, none-some}
use Rattle.liquid_grammar.specs.meaning.Faults.{indexes_fault}
use Rattle.liquid_grammar.specs.meaning.Values.{gather}
use Rattle.liquid_plugins.specs.meaning.Expression.{as_variable}
use Rattle.liquid_parser.proofs.VariableLemmas.{checked_none, whole_parts, whole_read}
use Rattle.liquid_parser.proofs.chain.variable.whole_variable.Goals as goal

pub returns-in-Some-into_variable : goal.returns-in-Some-into_variable
returns-in-Some-into_variable c v m f =
    let w = whole_parts c.one_match.ensures.identifiers c.args.text.now c.in-Some.rest.now c.in-Some.name.now v m c.in-Some.ensures.value in
    let fine : indexes_fault 0 (gather w.indexes) ≡ None = sym w.fault ∙ (sym f ∙ checked_none _ _ c.in_ok-check.ensures) in
    let b = rw c.in-Some-2.is at c.in_ok-expression-in-Some.ensures.value [] w.indexes w.match (λ some. absurd (omega (arith, some))) in
    whole_read _ v _ _ f c.in_ok-check.ensures (w.meant ∙ sym (same_Some _ _ (c.in-Some-into_variable.ensures ∙ ap as_variable b.1)))

pub returns-in-None-into_variable : goal.returns-in-None-into_variable
returns-in-None-into_variable c v m f =
    let w = whole_parts c.one_match.ensures.identifiers c.args.text.now c.in-Some.rest.now c.in-Some.name.now v m c.in-Some.ensures.value in
    let fine : indexes_fault 0 (gather w.indexes) ≡ None = sym w.fault ∙ (sym f ∙ checked_none _ _ c.in_ok-check.ensures) in
    let b = rw c.in-Some-2.is at c.in_ok-expression-in-Some.ensures.value [] w.indexes w.match (λ some. absurd (omega (arith, some))) in
    absurd (none-some _ (c.in-None-into_variable.ensures ∙ ap as_variable b.1))

pub returns-in-None-2 : goal.returns-in-None-2
returns-in-None-2 c v m f =
    let w = whole_parts c.one_match.ensures.identifiers c.args.text.now c.in-Some.rest.now c.in-Some.name.now v m c.in-Some.ensures.value in
    let fine : indexes_fault 0 (gather w.indexes) ≡ None = sym w.fault ∙ (sym f ∙ checked_none _ _ c.in_ok-check.ensures) in
    absurd ((rw c.in-None-2.is at c.in_ok-expression-in-Some.ensures.value [] w.indexes w.match (λ some. absurd (omega (arith, some))))
    fine)
