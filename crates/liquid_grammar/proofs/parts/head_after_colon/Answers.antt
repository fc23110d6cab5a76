use Rattle.liquid_grammar.proofs.PartLemmas.{returned_none}
use Rattle.liquid_grammar.proofs.FilterPartLemmas.{no_separator, colon_head}
use Rattle.liquid_grammar.proofs.parts.head_after_colon.Goals as goal

pub returns-in_err-following-clause-value : goal.returns-in_err-following-clause-value
returns-in_err-following-clause-value c = returned_none _ _ c.from_residual.ensures
    (no_separator 58 c.args.s.now c.in_err-following.ensures.value)

pub returns-clause-value : goal.returns-clause-value
returns-clause-value c = colon_head c.args.s.now _ c.value_head.result c.in_ok-following.ensures.value c.value_head.ensures.found
