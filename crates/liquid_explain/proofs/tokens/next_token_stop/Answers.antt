use Rattle.liquid_grammar.proofs.GrammarExact.{exact-white}
use Rattle.liquid_explain.proofs.FarthestLemmas.{either_far}
use Rattle.liquid_explain.proofs.RuleLemmas.{left_far}
use Rattle.liquid_explain.proofs.tokens.next_token_stop.Goals as goal

pub returns : goal.returns
returns c =
    left_far exact-white c.args.s.now _ _ c.skip_white-place.ensures.value
    (either_far _ _ _ _ c.farther-2.ensures c.token_wanted.ensures
    (either_far _ _ _ _ c.farther.ensures c.range_stop.ensures c.chain_stop.ensures))
