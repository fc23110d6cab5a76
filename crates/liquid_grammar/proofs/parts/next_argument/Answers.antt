use Rattle.liquid_grammar.proofs.PartLemmas.{returned_none}
use Rattle.liquid_grammar.proofs.FilterPartLemmas.{
  no_argument_left,
  no_separator,
  none_following,
  no_argument_here,
  keyword_first,
  word_first,
  wordless_first,
  at_separator,
}
use Rattle.liquid_grammar.specs.meaning.Parts.{separator}
use Rattle.liquid_grammar.proofs.parts.next_argument.Goals as goal

pub returns-in_err-place-clause-only : goal.returns-in_err-place-clause-only
returns-in_err-place-clause-only c rest found m =
    let first = c.args.is_first in
    let e = at_separator _ (separator first) c.args.s.now _ c.separator.ensures.value c.in_err-place.ensures.value in
    returned_none _ _ c.from_residual.ensures
    (no_argument_left first c.args.s.now rest found (no_separator (separator first) c.args.s.now e) m)

pub returns-in_err-literal-in-None-clause-only :
    goal.returns-in_err-literal-in-None-clause-only
returns-in_err-literal-in-None-clause-only c rest found m =
    let first = c.args.is_first in
    let e = at_separator _ (separator first) c.args.s.now _ c.separator.ensures.value c.in_ok-place.ensures.value in
    let none = no_argument_here _ c.in-None.ensures.value c.in_err-literal-in-None.ensures.value in
    returned_none _ _ c.from_residual-in_err-literal-in-None.ensures
    (no_argument_left first c.args.s.now rest found (none_following (separator first) c.args.s.now _ e none) m)

pub returns-in-Some-head_after_colon-clause-only :
    goal.returns-in-Some-head_after_colon-clause-only
returns-in-Some-head_after_colon-clause-only c rest found m =
    let first = c.args.is_first in
    let e = at_separator _ (separator first) c.args.s.now _ c.separator.ensures.value c.in_ok-place.ensures.value in
    keyword_first _ _ _ first c.args.s.now _ _ rest found e c.in-Some.ensures.value c.in-Some-head_after_colon.ensures.value m

pub returns-in-None-head_after_colon-clause-only :
    goal.returns-in-None-head_after_colon-clause-only
returns-in-None-head_after_colon-clause-only c rest found m =
    let first = c.args.is_first in
    let e = at_separator _ (separator first) c.args.s.now _ c.separator.ensures.value c.in_ok-place.ensures.value in
    word_first _ _ first c.args.s.now _ _ rest found e c.in-Some.ensures.value c.in-None-head_after_colon.ensures.value
    c.head_of_word.ensures m

pub returns-in_ok-literal-in-None-clause-only :
    goal.returns-in_ok-literal-in-None-clause-only
returns-in_ok-literal-in-None-clause-only c rest found m =
    let first = c.args.is_first in
    let e = at_separator _ (separator first) c.args.s.now _ c.separator.ensures.value c.in_ok-place.ensures.value in
    wordless_first _ _ first c.args.s.now _ rest found e c.in-None.ensures.value c.in_ok-literal-in-None.ensures.value m
