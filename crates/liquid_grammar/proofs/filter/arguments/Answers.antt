use Rattle.std.proofs.Common.{◌∙◌}
use Rattle.liquid_grammar.proofs.Scanning.{arguments_scan, joined_fault}
use Rattle.liquid_grammar.proofs.filter.arguments.Goals as goal

pub returns-clause-value : goal.returns-clause-value
returns-clause-value c =
    joined_fault _ _ c.or.result _ c.or.ensures
    ∙ arguments_scan c.args.s.now c.in_ok-following.field-0.now c.in_ok-first.rest.now _ _ _ c.in_ok-following.ensures.value
    c.in_ok-first.ensures.value c.more_arguments.ensures.value
