use Rattle.std.proofs.Common.{◌+◌, Option, sym, ap, ◌∙◌}
use Rattle.liquid_grammar.specs.declared.bracket.Await.TheVariants.{Index}
use Rattle.liquid_grammar.specs.meaning.Faults.{Fault}
use Rattle.liquid_grammar.specs.steps.BracketSteps.{adds, starts}
use Rattle.liquid_grammar.proofs.FlatBrackets.{turn_named, turn_open, turn_to_close, going_at, fault_added}
use Rattle.liquid_grammar.proofs.bracket.at_index.Goals as goal

pub returns-in-Some-clause-same : goal.returns-in-Some-clause-same
returns-in-Some-clause-same c =
    going_at c.args.state Index c.requires.index ∙ turn_named _ c.args.state.depth _ _ c.requires.some c.in-Some.ensures.value
    ∙ sym (going_at (record c.args.state { rest = c.in-Some.after }) Index c.requires.index)

pub returns-in-Some-open_bracket-clause-same : goal.returns-in-Some-open_bracket-clause-same
returns-in-Some-open_bracket-clause-same c =
    going_at c.args.state Index c.requires.index
    ∙ turn_open _ c.args.state.depth c.args.state.rest.now c.in-Some-open_bracket.after.now c.requires.some c.in-None.ensures.value
    c.in-Some-open_bracket.ensures.value
    ∙ ap (λ (f : Option Fault). adds f (starts (c.args.state.depth + 1) c.in-Some-open_bracket.after.now))
    (fault_added c.args.state.fault _ _ _ c.or.ensures c.depth_fault.ensures)

pub returns-in-None-open_bracket-clause-same : goal.returns-in-None-open_bracket-clause-same
returns-in-None-open_bracket-clause-same c =
    going_at c.args.state Index c.requires.index
    ∙ turn_to_close _ c.args.state.depth c.args.state.rest.now c.requires.some c.in-None.ensures.value
    c.in-None-open_bracket.ensures.value
