use Rattle.std.proofs.Common.{option_map, ap, ◌∙◌}
use Rattle.liquid_grammar.specs.meaning.Meanings.{literal_of}
use Rattle.liquid_grammar.proofs.Exact.{leaves_end, found_end, end_join, before_end}
use Rattle.liquid_grammar.proofs.TokenExact.{exact-whole, exact-fraction}
use Rattle.liquid_grammar.proofs.NumberLemmas.{with_fraction, without_fraction, no_longest}
use Rattle.liquid_grammar.proofs.literal.longest_number.Goals as goal

pub before-requires-clause-ends : goal.before-requires-clause-ends
before-requires-clause-ends c =
    before_end _ _ (end_join _ c.in_ok-text.end.now _ (found_end exact-whole _ _ c.in_ok-text.text.now c.in_ok-text.ensures.value)
    (leaves_end exact-fraction _ _ c.in-Some.ensures.value))

pub returns-in_err-text-clause-value : goal.returns-in_err-text-clause-value
returns-in_err-text-clause-value c =
    ap (option_map (λ p. (literal_of p.0, p.1.now))) c.from_residual.ensures ∙ no_longest c.args.s.now c.in_err-text.ensures.value

pub returns-in-Some-clause-value : goal.returns-in-Some-clause-value
returns-in-Some-clause-value c =
    with_fraction c.args.s.now c.in_ok-text.text.now c.in_ok-text.end.now _ _ c.in_ok-text.ensures.value c.in-Some.ensures.value
    c.before-in-Some.ensures

pub returns-in-None-clause-value : goal.returns-in-None-clause-value
returns-in-None-clause-value c = without_fraction c.args.s.now c.in_ok-text.text.now c.in_ok-text.end.now c.in_ok-text.ensures.value
    c.in-None.ensures.value
