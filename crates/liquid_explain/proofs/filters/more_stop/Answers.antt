use Rattle.std.proofs.Common.{rules}
use Rattle.liquid_grammar.specs.meaning.Tokens.{Following, ArgumentRule}
use Rattle.liquid_grammar.proofs.TokenExact.{exact-following, exact-argument}
use Rattle.liquid_explain.proofs.AlongLemmas.{start, step, start_far, step_far, along_far}
use Rattle.liquid_explain.proofs.filters.more_stop.Goals as goal

pub arguments-init : goal.arguments-init
arguments-init c = (
  search rules,
  record {
    walk = start;
    far = start_far (Following 44 ArgumentRule) c.args.s.now _
        c.next_argument_stop-stop.ensures;
  },
)

pub arguments-preserved : goal.arguments-preserved
arguments-preserved c =
    let kept = c.arguments.invariant.1 in
    let found = c.in-Some.ensures.value in (
      search rules,
      record {
        walk = step found.shape kept.walk found.match;
        far = step_far c.args.s.now _ _ found.shape kept.walk found.match _ _ _ c.farther-stop.ensures kept.far
            c.next_argument_stop-next.ensures;
      },
    )

pub returns : goal.returns
returns c =
    let kept = c.arguments.invariant.1 in
    along_far (exact-following 44 exact-argument) c.args.s.now _ kept.walk _ c.in_default.ensures.value kept.far
