use Rattle.std.proofs.Common.{option_map, ap, ◌∙◌}
use Rattle.liquid_grammar.specs.meaning.Meanings.{literal_of}
use Rattle.liquid_grammar.proofs.FirstByteLemmas.{first_byte, as_text, quoted_here, unquoted_here}
use Rattle.liquid_grammar.proofs.literal.text_or_number.Goals as goal

pub returns-in_err-text-clause-value : goal.returns-in_err-text-clause-value
returns-in_err-text-clause-value c =
    let first = first_byte c.args.s.now _ _ c.as_bytes.ensures.value c.byte_at-first.ensures in
    ap (option_map (λ p. (literal_of p.0, p.1.now))) c.from_residual.ensures ∙ ap as_text c.in_err-text.ensures.value
    ∙ quoted_here c.args.s.now _ first c.if-first-eq34.either

pub returns-in_ok-text-clause-value : goal.returns-in_ok-text-clause-value
returns-in_ok-text-clause-value c =
    let first = first_byte c.args.s.now _ _ c.as_bytes.ensures.value c.byte_at-first.ensures in
    ap as_text c.in_ok-text.ensures.value ∙ quoted_here c.args.s.now _ first c.if-first-eq34.either

pub returns-else-first-eq34-clause-value : goal.returns-else-first-eq34-clause-value
returns-else-first-eq34-clause-value c =
    let first = first_byte c.args.s.now _ _ c.as_bytes.ensures.value c.byte_at-first.ensures in
    c.number.ensures.value ∙ unquoted_here c.args.s.now _ first c.if-first-eq34.false.0 c.if-first-eq34.false.1
