use Rattle.std.proofs.Common.{sym, ◌∙◌}
use Rattle.liquid_grammar.specs.meaning.Faults.{chain_fault}
use Rattle.liquid_grammar.specs.steps.TokenSteps.{chain_of}
use Rattle.liquid_grammar.proofs.KindLemmas.{unfiltered_is, nothing_chain_kind, nothing_scan}
use Rattle.liquid_grammar.proofs.Scanning.{chain_end, no_chain_scan}
use Rattle.liquid_grammar.proofs.FirstByteLemmas.{no_filter_here}
use Rattle.liquid_grammar.proofs.filter.chain_and_kind.Goals as goal

pub returns-in_err-kind-clause-kind : goal.returns-in_err-kind-clause-kind
returns-in_err-kind-clause-kind c = nothing_chain_kind c.args.s.now _ c.from_residual.ensures c.in_err-kind.ensures.kind

pub returns-in_err-kind-clause-value : goal.returns-in_err-kind-clause-value
returns-in_err-kind-clause-value c = nothing_scan chain_fault (chain_of c.args.s.now) _ c.from_residual.ensures
    (no_chain_scan c.args.s.now c.in_err-kind.ensures.value)

pub returns-then-begins_filter-clause-kind : goal.returns-then-begins_filter-clause-kind
returns-then-begins_filter-clause-kind c = c.match_filters.ensures.kind c.args.s.now c.in_ok-kind.ensures.kind

pub returns-then-begins_filter-clause-value : goal.returns-then-begins_filter-clause-value
returns-then-begins_filter-clause-value c = c.match_filters.ensures.value c.args.s.now c.in_ok-kind.ensures.value

pub returns-else-begins_filter-clause-kind : goal.returns-else-begins_filter-clause-kind
returns-else-begins_filter-clause-kind c =
    unfiltered_is c.args.s.now _ _ c.in_ok-kind.ensures.kind
    (no_filter_here c.in_ok-kind.rest.now (sym c.begins_filter.ensures ∙ c.if-begins_filter.false))

pub returns-else-begins_filter-clause-value : goal.returns-else-begins_filter-clause-value
returns-else-begins_filter-clause-value c =
    chain_end c.args.s.now _ _ c.in_ok-kind.ensures.value
    (no_filter_here c.in_ok-kind.rest.now (sym c.begins_filter.ensures ∙ c.if-begins_filter.false))
