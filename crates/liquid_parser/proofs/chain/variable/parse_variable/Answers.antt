use Rattle.std.proofs.Common.{◌≡◌, [], ap, ◌∙◌, subst, List, ℕ}
use Rattle.liquid_grammar.specs.meaning.Faults.{value_fault}
use Rattle.liquid_grammar.specs.meaning.Values.{Value, VariableRule}
use Rattle.liquid_parser.proofs.VariableLemmas.{one_variable, no_bytes, some_bytes}
use Rattle.liquid_parser.proofs.chain.variable.parse_variable.Goals as goal

pub returns-then-is_empty-clause-variable : goal.returns-then-is_empty-clause-variable
returns-then-is_empty-clause-variable c v m =
    let found = c.in-Some.ensures.value in
    let same = one_variable c.args.text.now c.in-Some.rest.now [] found.shape v found.match m in
    c.whole_variable.ensures v m (found.is ∙ ap (λ (p : Value × List ℕ). value_fault p.0) same)

pub returns-then-is_empty-clause-none : goal.returns-then-is_empty-clause-none
returns-then-is_empty-clause-none c none =
    let found = c.in-Some.ensures.value in
    let empty : c.in-Some.rest.now ≡ [] = no_bytes c.in-Some.rest.now c.if-is_empty.ensures in
    absurd (none (record { value = found.shape; match = subst (λ r. VariableRule c.args.text.now r found.shape) empty found.match }))

pub returns-else-is_empty-clause-variable : goal.returns-else-is_empty-clause-variable
returns-else-is_empty-clause-variable c v m =
    let found = c.in-Some.ensures.value in
    let same = one_variable c.args.text.now c.in-Some.rest.now [] found.shape v found.match m in
    let empty : c.in-Some.rest.now ≡ [] = ap (λ (p : Value × List ℕ). p.1) same in
    absurd (some_bytes c.in-Some.rest.now c.if-is_empty.ensures empty)
