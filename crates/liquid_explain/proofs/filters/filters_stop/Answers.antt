use Rattle.std.proofs.Common.{rules}
use Rattle.liquid_grammar.specs.meaning.Tokens.{Following, FilterRule}
use Rattle.liquid_grammar.proofs.TokenExact.{exact-following, exact-filter}
use Rattle.liquid_explain.proofs.AlongLemmas.{start, step, start_far, step_far, along_far}
use Rattle.liquid_explain.proofs.filters.filters_stop.Goals as goal

pub filters-init : goal.filters-init
filters-init c = (
  search rules,
  record {
    walk = start;
    far = start_far (Following 124 FilterRule) c.args.s.now _
        c.next_filter_stop-stop.ensures;
  },
)

pub filters-preserved : goal.filters-preserved
filters-preserved c =
    let kept = c.filters.invariant.1 in
    let found = c.in-Some.ensures.value in (
      search rules,
      record {
        walk = step found.shape kept.walk found.match;
        far = step_far c.args.s.now _ _ found.shape kept.walk found.match _ _ _ c.farther-stop.ensures kept.far
            c.next_filter_stop-next.ensures;
      },
    )

pub returns : goal.returns
returns c =
    let kept = c.filters.invariant.1 in
    along_far (exact-following 124 exact-filter) c.args.s.now _ kept.walk _ c.in_default.ensures.value kept.far
