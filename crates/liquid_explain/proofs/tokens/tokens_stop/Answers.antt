use Rattle.std.proofs.Common.{rules}
use Rattle.liquid_grammar.specs.meaning.Rules.{◌▷◌}
use Rattle.liquid_grammar.specs.meaning.Grammar.{White}
use Rattle.liquid_grammar.specs.meaning.Tokens.{TokenRule}
use Rattle.liquid_grammar.proofs.TokenExact.{exact-next_token, exact-tokens}
use Rattle.liquid_explain.proofs.AlongLemmas.{start, step, start_far, step_far, along_far, walked_all}
use Rattle.liquid_explain.proofs.FarthestLemmas.{either_far, after_far}
use Rattle.liquid_explain.proofs.tokens.tokens_stop.Goals as goal

pub tokens-init : goal.tokens-init
tokens-init c = (search rules, record { walk = start; far = start_far (White ▷ TokenRule) c.args.s.now _ c.next_token_stop-stop.ensures })

pub tokens-preserved : goal.tokens-preserved
tokens-preserved c =
    let kept = c.tokens.invariant.1 in
    let found = c.in-Some.ensures.value in (
      search rules,
      record {
        walk = step found.shape kept.walk found.match;
        far = step_far c.args.s.now _ _ found.shape kept.walk found.match _ _ _ c.farther-stop.ensures kept.far
            c.next_token_stop-next.ensures;
      },
    )

pub returns : goal.returns
returns c =
    let kept = c.tokens.invariant.1 in
    either_far c.args.s.now _ _ _ c.farther.ensures
    (along_far exact-next_token c.args.s.now _ kept.walk _ c.in_default.ensures.value kept.far)
    (after_far exact-tokens c.args.s.now _ _ _ (walked_all c.args.s.now _ kept.walk c.in_default.ensures.value).match
    c.closer_stop-last.ensures)
