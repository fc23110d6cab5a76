use Rattle.std.proofs.Common.{pred, Option, ap, ◌∙◌}
use Rattle.liquid_grammar.specs.declared.bracket.Await.TheVariants.{Value}
use Rattle.liquid_grammar.specs.meaning.Faults.{Fault}
use Rattle.liquid_grammar.specs.meaning.Meanings.{literal_of}
use Rattle.liquid_grammar.specs.steps.BracketSteps.{adds, resume, closing}
use Rattle.liquid_grammar.proofs.HeadLemmas.{literal_found, name_found, no_literal_found}
use Rattle.liquid_grammar.proofs.FlatBrackets.{turn_literal, turn_name, turn_no_value, going_at, fault_added, match_none}
use Rattle.liquid_grammar.proofs.bracket.at_value.Goals as goal

pub returns-in_err-literal-clause-same : goal.returns-in_err-literal-clause-same
returns-in_err-literal-clause-same c =
    match_none _ _ _ c.from_residual.ensures (going_at c.args.state Value c.requires.value
    ∙ turn_no_value _ _ _ c.requires.some c.in_err-literal.ensures.literal c.in_err-literal.ensures.name)

pub returns-in-Literal-default-clause-same : goal.returns-in-Literal-default-clause-same
returns-in-Literal-default-clause-same c =
    let head = c.in_ok-literal in
    let found = literal_found c.args.state.rest.now head.field-0 c.in-Literal-default.literal c.in-Literal-default.is-0
    head.ensures.literal in
    going_at c.args.state Value c.requires.value
    ∙ turn_literal _ c.args.state.depth c.args.state.rest.now head.field-0.1.now
    (literal_of c.in-Literal-default.literal) c.requires.some found
    ∙ ap (λ (f : Option Fault). adds f (closing (resume (pred c.args.state.depth)) head.field-0.1.now))
    (fault_added c.args.state.fault _ _ _ c.or.ensures c.literal_fault.ensures)

pub returns-in-Name-default-clause-same : goal.returns-in-Name-default-clause-same
returns-in-Name-default-clause-same c =
    let head = c.in_ok-literal in
    let name = c.in-Name-default in
    going_at c.args.state Value c.requires.value
    ∙ turn_name _ _ _ head.field-0.1.now name.field-0-0.now c.requires.some
    (no_literal_found c.args.state.rest.now head.field-0 name.field-0-0 name.is-0 head.ensures.literal)
    (name_found c.args.state.rest.now head.field-0 name.field-0-0 name.is-0 head.ensures.name)
