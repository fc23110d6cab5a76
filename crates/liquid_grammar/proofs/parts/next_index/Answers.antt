use Rattle.std.proofs.Common.{sym, ◌∙◌, arith}
use Rattle.liquid_grammar.proofs.PartLemmas.{none_left, returned_none}
use Rattle.liquid_grammar.proofs.IndexPartLemmas.{
  named_first,
  bracket_first,
  some_left,
  inside_left,
  no_index,
  index_begins,
  unmatched_brackets,
}
use Rattle.liquid_grammar.proofs.FirstByteLemmas.{first_byte, no_index_begins}
use Rattle.liquid_grammar.proofs.parts.next_index.Goals as goal

pub returns-in_err-match_bracket-in-None-clause-only :
    goal.returns-in_err-match_bracket-in-None-clause-only
returns-in_err-match_bracket-in-None-clause-only c rest is m inside =
    returned_none _ _ c.from_residual.ensures
    (none_left c.args.s.now rest is m (unmatched_brackets c.args.s.now c.in-None.ensures.value
    c.in_err-match_bracket-in-None.ensures.value))

pub returns-in_err-open_bracket-in-None-2-clause-only :
    goal.returns-in_err-open_bracket-in-None-2-clause-only
returns-in_err-open_bracket-in-None-2-clause-only c rest is m inside =
    returned_none _ _ c.from_residual-in_err-open_bracket-in-None-2.ensures
    (none_left c.args.s.now rest is m (no_index c.args.s.now c.in-None-2.ensures.value c.in_err-open_bracket-in-None-2.ensures.value))

pub returns-in-Some-clause-only : goal.returns-in-Some-clause-only
returns-in-Some-clause-only c rest is m inside = named_first c.args.s.now _ _ rest is c.in-Some.ensures.value m

pub returns-in_ok-open_bracket-in-None-clause-only :
    goal.returns-in_ok-open_bracket-in-None-clause-only
returns-in_ok-open_bracket-in-None-clause-only c rest is m inside =
    bracket_first c.args.s.now rest _ is c.in-None.ensures.value c.in_ok-open_bracket-in-None.ensures.value
    (some_left c.args.s.now rest is (index_begins c.args.s.now _ c.in-None.ensures.value c.in_ok-match_bracket-in-None.ensures.value) m)
    m

pub returns-in_ok-open_bracket-in-None-2-clause-only :
    goal.returns-in_ok-open_bracket-in-None-2-clause-only
returns-in_ok-open_bracket-in-None-2-clause-only c rest is m inside =
    bracket_first c.args.s.now rest _ is c.in-None-2.ensures.value c.in_ok-open_bracket-in-None-2.ensures.value
    (inside_left c.args.s.now rest _ is c.in_ok-open_bracket-in-None-2.ensures.value (inside (omega arith)))
    m

pub returns-then-not-begins_index-clause-only : goal.returns-then-not-begins_index-clause-only
returns-then-not-begins_index-clause-only c rest is m inside =
    none_left c.args.s.now rest is m
    (no_index_begins c.args.s.now _ (first_byte c.args.s.now _ _ c.as_bytes.ensures.value c.byte_at.ensures)
    (sym c.begins_index.ensures ∙ c.if-not-begins_index.true))
