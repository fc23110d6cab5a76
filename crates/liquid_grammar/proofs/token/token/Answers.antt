use Rattle.std.proofs.Common.{option_map, sym, ap, ◌∙◌}
use Rattle.liquid_grammar.specs.meaning.Meanings.{scanned_of}
use Rattle.liquid_grammar.proofs.FirstByteLemmas.{
  first_byte,
  parenthesis_is_no_value,
  no_range_here,
  no_chain_here,
  no_symbol_at_value,
  no_symbol_at_parenthesis,
}
use Rattle.liquid_grammar.proofs.TokenScan.{token_is_range, token_is_chain, token_is_symbol}
use Rattle.liquid_grammar.proofs.token.token.Goals as goal

pub returns-then-first-eq40-clause-value : goal.returns-then-first-eq40-clause-value
returns-then-first-eq40-clause-value c =
    let first = first_byte c.args.s.now _ _ c.as_bytes.ensures.value c.byte_at-first.ensures in
    let here = c.if-first-eq40.true in
    token_is_range c.args.s.now _ (no_chain_here c.args.s.now _ first (parenthesis_is_no_value _ here))
    (no_symbol_at_parenthesis c.args.s.now _ first here) c.range.ensures.value

pub returns-then-begins_value-clause-value : goal.returns-then-begins_value-clause-value
returns-then-begins_value-clause-value c =
    let first = first_byte c.args.s.now _ _ c.as_bytes.ensures.value c.byte_at-first.ensures in
    token_is_chain c.args.s.now _ (no_range_here c.args.s.now _ first c.if-first-eq40.false)
    (no_symbol_at_value c.args.s.now _ first (sym c.begins_value.ensures ∙ c.if-begins_value.true)) c.chain.ensures.value

pub returns-in_err-symbol-clause-value : goal.returns-in_err-symbol-clause-value
returns-in_err-symbol-clause-value c =
    let first = first_byte c.args.s.now _ _ c.as_bytes.ensures.value c.byte_at-first.ensures in
    let chainless = no_chain_here c.args.s.now _ first (sym c.begins_value.ensures ∙ c.if-begins_value.false) in
    ap (option_map scanned_of) c.from_residual.ensures ∙ token_is_symbol c.args.s.now _
    (no_range_here c.args.s.now _ first c.if-first-eq40.false) chainless c.in_err-symbol.ensures.value

pub returns-in_ok-symbol-clause-value : goal.returns-in_ok-symbol-clause-value
returns-in_ok-symbol-clause-value c =
    let first = first_byte c.args.s.now _ _ c.as_bytes.ensures.value c.byte_at-first.ensures in
    let chainless = no_chain_here c.args.s.now _ first (sym c.begins_value.ensures ∙ c.if-begins_value.false) in
    token_is_symbol c.args.s.now _ (no_range_here c.args.s.now _ first c.if-first-eq40.false) chainless c.in_ok-symbol.ensures.value
