use Rattle.liquid_grammar.proofs.ExpressionPartLemmas.{opens_dashed, opens_plain}
use Rattle.liquid_grammar.proofs.parts.expression_start.Goals as goal

pub returns-in-Some-clause-opens : goal.returns-in-Some-clause-opens
returns-in-Some-clause-opens c = opens_dashed c.args.s.now _ _ _ c.in_ok-inside.ensures.value c.in-Some.ensures.value
    c.skip_white.ensures.value

pub returns-in-None-clause-opens : goal.returns-in-None-clause-opens
returns-in-None-clause-opens c = opens_plain c.args.s.now _ _ c.in_ok-inside.ensures.value c.in-None.ensures.value
    c.skip_white-in-None.ensures.value
