use Rattle.std.proofs.Common.{true, false, sym, subst, ◌∙◌}
use Rattle.liquid_std.specs.steps.inclusion.Pairs.{Finds}
use Rattle.liquid_std.proofs.PairLemmas.{finds, first_found}
use Rattle.liquid_std.proofs.inclusion.pairs.next_first.Goals as goal

pub returns-then-eq-clause-value : goal.returns-then-eq-clause-value
returns-then-eq-clause-value c ts at =
    let one = c.in_ok-token.ensures.value ts at in
    subst (λ m. Finds c.next-then-eq.result c.next-then-eq.new.self m)
    (sym (first_found ts one.0 _ true one.1 (c.as_str.ensures one.0.0 one.2.token_is) (sym c.eq.ensures ∙ c.if-eq.true)))
    (finds c.next-then-eq.result c.next-then-eq.new.self one.0.1 _ (c.next-then-eq.ensures.value one.0.1 one.2.left))

pub returns-else-eq-clause-value : goal.returns-else-eq-clause-value
returns-else-eq-clause-value c ts at =
    let one = c.in_ok-token.ensures.value ts at in
    (one.0, first_found ts one.0 _ false one.1 (c.as_str.ensures one.0.0 one.2.token_is) (sym c.eq.ensures ∙ c.if-eq.false), one.2)
