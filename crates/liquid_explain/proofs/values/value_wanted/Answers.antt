use Rattle.liquid_grammar.proofs.Exact.{exact-byte, exact-either}
use Rattle.liquid_explain.proofs.RuleLemmas.{begins, left_ends, left_nothing}
use Rattle.liquid_explain.proofs.ValueLemmas.{plain_far, quoted_far}
use Rattle.liquid_explain.proofs.values.value_wanted.Goals as goal

pub returns-in-Some : goal.returns-in-Some
returns-in-Some c =
    quoted_far c.args.s.now _ c.want.ensures c.requires
    (begins (left_ends (exact-either (exact-byte 34) (exact-byte 39)) c.args.s.now _ c.in-Some.ensures))

pub returns-in-None : goal.returns-in-None
returns-in-None c =
    plain_far c.args.s.now _ c.want-in-None.ensures c.requires
    (left_nothing (exact-either (exact-byte 34) (exact-byte 39)) c.args.s.now c.in-None.ensures)
