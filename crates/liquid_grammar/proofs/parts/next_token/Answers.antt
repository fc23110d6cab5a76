use Rattle.liquid_grammar.proofs.PartLemmas.{returned_none}
use Rattle.liquid_grammar.proofs.TokenPartLemmas.{token_first, no_token_first, token_ends, text_before}
use Rattle.liquid_grammar.proofs.parts.next_token.Goals as goal

pub before-requires-clause-ends : goal.before-requires-clause-ends
before-requires-clause-ends c = let found = c.in_ok-parts.ensures.value in token_ends c.skip_white-place.result.now _ found.0 found.1

pub returns-in_err-parts-clause-only : goal.returns-in_err-parts-clause-only
returns-in_err-parts-clause-only c rest tokens m =
    returned_none _ _ c.from_residual.ensures
    (no_token_first c.args.s.now _ rest tokens c.skip_white-place.ensures.value c.in_err-parts.ensures.value m)

pub returns-clause-only : goal.returns-clause-only
returns-clause-only c = token_first c.args.s.now _ c.skip_white-place.ensures.value c.in_ok-parts.ensures.value

pub returns-clause-cut : goal.returns-clause-cut
returns-clause-cut c = let found = c.in_ok-parts.ensures.value in text_before c.skip_white-place.result.now _ _ found.0 found.1
    c.before-2.ensures
