use Rattle.liquid_grammar.proofs.PartLemmas.{head_found, head_only}
use Rattle.liquid_grammar.proofs.parts.value_head.Goals as goal

pub returns-clause-found : goal.returns-clause-found
returns-clause-found c = head_found c.args.s.now c.read_head.result c.read_head.ensures.literal c.read_head.ensures.name

pub returns-clause-only : goal.returns-clause-only
returns-clause-only c = head_only c.args.s.now c.read_head.result
    (head_found c.args.s.now c.read_head.result c.read_head.ensures.literal c.read_head.ensures.name)
