use Rattle.std.proofs.Common.{sym, ◌∙◌}
use Rattle.liquid_grammar.proofs.PartLemmas.{returned_none}
use Rattle.liquid_grammar.proofs.TokenPartLemmas.{range_token, chain_token, symbol_token, symbol_ends, no_token}
use Rattle.liquid_grammar.proofs.FirstByteLemmas.{
  first_byte,
  parenthesis_is_no_value,
  no_range_here,
  no_chain_here,
  no_symbol_at_value,
  no_symbol_at_parenthesis,
  no_rest,
}
use Rattle.liquid_grammar.proofs.parts.token_parts.Goals as goal

pub returns-in_err-start-clause-value : goal.returns-in_err-start-clause-value
returns-in_err-start-clause-value c =
    let first = first_byte c.args.place.now _ _ c.as_bytes.ensures.value c.byte_at-first.ensures in
    let here = c.if-first-eq40.true in
    let chainless = no_chain_here c.args.place.now _ first (parenthesis_is_no_value _ here) in
    let symbolless = no_rest c.args.place.now (no_symbol_at_parenthesis c.args.place.now _ first here) in
    returned_none _ _ c.from_residual.ensures (no_token c.args.place.now c.in_err-start.ensures.value chainless symbolless)

pub returns-in_ok-start-clause-value : goal.returns-in_ok-start-clause-value
returns-in_ok-start-clause-value c =
    let found = range_token c.args.place.now _ _ _ c.in_ok-start.ensures.ends in
    (found.0, found.1, found.2)

pub returns-in_err-kind-clause-value : goal.returns-in_err-kind-clause-value
returns-in_err-kind-clause-value c =
    let first = first_byte c.args.place.now _ _ c.as_bytes.ensures.value c.byte_at-first.ensures in
    let rangeless = no_range_here c.args.place.now _ first c.if-first-eq40.false in
    let symbolless = no_rest c.args.place.now
    (no_symbol_at_value c.args.place.now _ first (sym c.begins_value.ensures ∙ c.if-begins_value.true)) in
    returned_none _ _ c.from_residual-in_err-kind.ensures (no_token c.args.place.now rangeless c.in_err-kind.ensures.value symbolless)

pub returns-in_ok-kind-clause-value : goal.returns-in_ok-kind-clause-value
returns-in_ok-kind-clause-value c =
    let first = first_byte c.args.place.now _ _ c.as_bytes.ensures.value c.byte_at-first.ensures in
    let rangeless = no_range_here c.args.place.now _ first c.if-first-eq40.false in
    let found = chain_token c.args.place.now _ _ _ rangeless c.in_ok-kind.ensures.kind c.in_ok-kind.ensures.value in
    (found.0, found.1, found.2)

pub returns-in_err-rest-clause-value : goal.returns-in_err-rest-clause-value
returns-in_err-rest-clause-value c =
    let first = first_byte c.args.place.now _ _ c.as_bytes.ensures.value c.byte_at-first.ensures in
    let rangeless = no_range_here c.args.place.now _ first c.if-first-eq40.false in
    let chainless = no_chain_here c.args.place.now _ first (sym c.begins_value.ensures ∙ c.if-begins_value.false) in
    returned_none _ _ c.from_residual-in_err-rest.ensures (no_token c.args.place.now rangeless chainless c.in_err-rest.ensures.value)

pub before-requires-clause-ends : goal.before-requires-clause-ends
before-requires-clause-ends c = symbol_ends c.args.place.now _ c.in_ok-rest.ensures.value

pub returns-in_ok-rest-clause-value : goal.returns-in_ok-rest-clause-value
returns-in_ok-rest-clause-value c =
    let first = first_byte c.args.place.now _ _ c.as_bytes.ensures.value c.byte_at-first.ensures in
    let rangeless = no_range_here c.args.place.now _ first c.if-first-eq40.false in
    let chainless = no_chain_here c.args.place.now _ first (sym c.begins_value.ensures ∙ c.if-begins_value.false) in
    let found = symbol_token c.args.place.now _ _ rangeless chainless c.in_ok-rest.ensures.value c.before-else-begins_value.ensures in
    (found.0, found.1, found.2)
