use Rattle.std.proofs.Common.{option_and_then, ap, ◌∙◌}
use Rattle.liquid_grammar.specs.steps.Heads.{literal_in, name_in}
use Rattle.liquid_grammar.proofs.HeadLemmas.{literal_of_word, name_of_word, literal_without_word, no_name}
use Rattle.liquid_grammar.proofs.head.read_head.Goals as goal

pub returns-in_err-literal-in-None-clause-literal : goal.returns-in_err-literal-in-None-clause-literal
returns-in_err-literal-in-None-clause-literal c = ap (option_and_then literal_in) c.from_residual.ensures
    ∙ literal_without_word c.args.s.now _ c.in-None.ensures.value c.in_err-literal-in-None.ensures.value

pub returns-in_err-literal-in-None-clause-name : goal.returns-in_err-literal-in-None-clause-name
returns-in_err-literal-in-None-clause-name c = ap (option_and_then name_in) c.from_residual.ensures
    ∙ no_name c.args.s.now c.in-None.ensures.value

pub returns-in-Some-clause-literal : goal.returns-in-Some-clause-literal
returns-in-Some-clause-literal c = literal_of_word c.args.s.now c.in-Some.word.now _ c.in-Some.rest c.in-Some.ensures.value
    c.head_of_word.ensures

pub returns-in-Some-clause-name : goal.returns-in-Some-clause-name
returns-in-Some-clause-name c = name_of_word c.args.s.now c.in-Some.word.now _ c.in-Some.rest c.in-Some.ensures.value c.head_of_word.ensures

pub returns-in_ok-literal-in-None-clause-literal : goal.returns-in_ok-literal-in-None-clause-literal
returns-in_ok-literal-in-None-clause-literal c =
    literal_without_word c.args.s.now _ c.in-None.ensures.value c.in_ok-literal-in-None.ensures.value

pub returns-in_ok-literal-in-None-clause-name : goal.returns-in_ok-literal-in-None-clause-name
returns-in_ok-literal-in-None-clause-name c = no_name c.args.s.now c.in-None.ensures.value
