use Rattle.liquid_grammar.proofs.Exact.{leaves_end, found_end, end_join, before_end}
use Rattle.liquid_grammar.proofs.TokenExact.{exact-sign, exact-digits}
use Rattle.liquid_grammar.proofs.literal.whole.Goals as goal

pub before-requires-clause-ends : goal.before-requires-clause-ends
before-requires-clause-ends c = before_end _ _ (end_join _ _ _ (leaves_end exact-sign _ _ c.skip_sign.ensures.value)
    (found_end exact-digits _ _ c.in_ok-rest.field-0-0.now c.in_ok-rest.ensures.value))
