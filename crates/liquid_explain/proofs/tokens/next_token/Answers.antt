use Rattle.liquid_explain.proofs.RuleLemmas.{no_spaced, spaced_ends}
use Rattle.liquid_explain.proofs.tokens.next_token.Goals as goal

pub returns-in-None-clause-value : goal.returns-in-None-clause-value
returns-in-None-clause-value c = no_spaced c.args.s.now _ c.skip_white-place.ensures.value c.in-None.ensures.value

pub returns-in-Some-clause-value : goal.returns-in-Some-clause-value
returns-in-Some-clause-value c = spaced_ends c.args.s.now _ _ _ c.skip_white-place.ensures.value c.in-Some.ensures.value.match
