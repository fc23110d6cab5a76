use Rattle.liquid_grammar.proofs.Exact.{exact-byte, leaves_end, end_join, before_end}
use Rattle.liquid_grammar.proofs.GrammarExact.{exact-white}
use Rattle.liquid_grammar.proofs.element.lone_brace.Goals as goal

pub before-requires-clause-ends : goal.before-requires-clause-ends
before-requires-clause-ends c =
    before_end _ _ (end_join _ _ _ (leaves_end exact-white _ _ c.skip_white.ensures.value)
    (leaves_end (exact-byte 123) _ _ c.in_ok-rest.ensures.value))
