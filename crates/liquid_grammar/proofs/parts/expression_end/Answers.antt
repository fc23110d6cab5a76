use Rattle.liquid_grammar.proofs.ExpressionPartLemmas.{closes}
use Rattle.liquid_grammar.proofs.parts.expression_end.Goals as goal

pub returns-clause-closes : goal.returns-clause-closes
returns-clause-closes c = closes c.args.s.now _ c.closer.result c.skip_white.ensures.value c.closer.ensures.value
