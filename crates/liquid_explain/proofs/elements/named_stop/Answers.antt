use Rattle.liquid_grammar.proofs.GrammarExact.{exact-identifier}
use Rattle.liquid_explain.proofs.RuleLemmas.{begins_at}
use Rattle.liquid_explain.proofs.FarthestLemmas.{wants_far, not_wanted, after_far, no_after, first_far, second_far}
use Rattle.liquid_explain.proofs.elements.named_stop.Goals as goal

pub returns-in-None : goal.returns-in-None
returns-in-None c =
    first_far c.args.s.now _ (wants_far c.args.s.now _ _ c.want.ensures c.in-None.ensures.value)
    (no_after c.args.s.now c.in-None.ensures.value)

pub returns-in-Some : goal.returns-in-Some
returns-in-Some c =
    second_far c.args.s.now _ (not_wanted c.args.s.now _ (begins_at _ _ c.in-Some.ensures.value))
    (after_far exact-identifier c.args.s.now _ _ _ c.in-Some.ensures.value c.tokens_stop.ensures)
