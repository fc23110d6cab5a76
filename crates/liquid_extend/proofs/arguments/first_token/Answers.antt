use Rattle.std.proofs.Common.{true, false, sym, subst, ◌∙◌}
use Rattle.liquid_parser.specs.meaning.Cursors.{HandsOutOr}
use Rattle.liquid_extend.proofs.ArgumentLemmas.{first_found}
use Rattle.liquid_extend.proofs.arguments.first_token.Goals as goal

pub returns-then-eq-clause-value : goal.returns-then-eq-clause-value
returns-then-eq-clause-value c t is ts at =
    subst (λ m. HandsOutOr c.expect_next.result c.expect_next.new.self ts m)
    (sym (first_found t ts _ true (c.as_str.ensures t is) (sym c.eq.ensures ∙ c.if-eq.true))) (c.expect_next.ensures.value ts at)

pub returns-else-eq-clause-value : goal.returns-else-eq-clause-value
returns-else-eq-clause-value c t is ts at =
    ((t, ts), first_found t ts _ false (c.as_str.ensures t is) (sym c.eq.ensures ∙ c.if-eq.false), record { token_is = is; left = at })
