use Rattle.std.proofs.Common.{◌-◌, arith}
use Rattle.liquid_grammar.proofs.TokenExact.{exact-open_bracket}
use Rattle.liquid_explain.proofs.RuleLemmas.{begins_at, left_ends, left_nothing}
use Rattle.liquid_explain.proofs.ValueLemmas.{not_nested, nested_far, absent_far, literal_far, variable_far, member_far, bracket_far}
use Rattle.liquid_explain.proofs.values.+nested_stop.Goals as goal

pub returns-then-depth-eq0 : goal.returns-then-depth-eq0
returns-then-depth-eq0 t c = not_nested c.args.depth c.args.s.now (omega arith)

pub returns-in-None : goal.returns-in-None
returns-in-None t c =
    nested_far c.args.depth (c.args.depth - 1) c.args.s.now _ (omega arith)
    (absent_far c.args.s.now _ c.in-None.ensures.value c.value_wanted.ensures)

pub returns-in-None-match_variable : goal.returns-in-None-match_variable
returns-in-None-match_variable t c =
    nested_far c.args.depth (c.args.depth - 1) c.args.s.now _ (omega arith)
    (literal_far c.args.s.now (begins_at _ _ c.in-Some.ensures.value.match) c.in-None-match_variable.ensures.value)

pub returns-in-None-open_bracket : goal.returns-in-None-open_bracket
returns-in-None-open_bracket t c =
    nested_far c.args.depth (c.args.depth - 1) c.args.s.now _ (omega arith)
    (variable_far c.args.s.now _ _ _ (begins_at _ _ c.in-Some.ensures.value.match) c.in-Some-match_variable.ensures.value.match
    (member_far _ _ (left_nothing exact-open_bracket _ c.in-None-open_bracket.ensures) c.member_stop.ensures))

pub returns-in-Some-open_bracket : goal.returns-in-Some-open_bracket
returns-in-Some-open_bracket t c =
    let m = left_ends exact-open_bracket _ _ c.in-Some-open_bracket.ensures in
    nested_far c.args.depth (c.args.depth - 1) c.args.s.now _ (omega arith)
    (variable_far c.args.s.now _ _ _ (begins_at _ _ c.in-Some.ensures.value.match) c.in-Some-match_variable.ensures.value.match
    (bracket_far _ _ _ _ _ _ m.match c.farther.ensures c.nested_stop-inner.ensures c.bracket_stop.ensures))
