use Rattle.std.proofs.Common.{sym, ◌∙◌}
use Rattle.liquid_grammar.specs.meaning.Faults.{value_fault}
use Rattle.liquid_grammar.specs.meaning.Meanings.{literal_of}
use Rattle.liquid_grammar.specs.steps.TokenSteps.{value}
use Rattle.liquid_grammar.proofs.HeadLemmas.{literal_found, name_found, no_literal_found}
use Rattle.liquid_grammar.proofs.KindLemmas.{literal_is, identifier_is, nothing_kind, nothing_scan}
use Rattle.liquid_grammar.proofs.ValueScan.{value_literal, variable_end, no_value_scan}
use Rattle.liquid_grammar.proofs.FirstByteLemmas.{first_byte, no_index_here}
use Rattle.liquid_grammar.proofs.value.value_and_kind.Goals as goal

pub returns-in_err-literal-clause-kind : goal.returns-in_err-literal-clause-kind
returns-in_err-literal-clause-kind c = nothing_kind c.args.s.now _ c.from_residual.ensures c.in_err-literal.ensures.literal
    c.in_err-literal.ensures.name

pub returns-in_err-literal-clause-value : goal.returns-in_err-literal-clause-value
returns-in_err-literal-clause-value c = nothing_scan value_fault (value c.args.s.now) _ c.from_residual.ensures
    (no_value_scan c.args.s.now c.in_err-literal.ensures.literal c.in_err-literal.ensures.name)

pub returns-in-Literal-default-clause-kind : goal.returns-in-Literal-default-clause-kind
returns-in-Literal-default-clause-kind c =
    let head = c.in_ok-literal in
    literal_is c.args.s.now head.field-0.1.now (literal_of c.in-Literal-default.literal)
    (literal_found c.args.s.now head.field-0 c.in-Literal-default.literal c.in-Literal-default.is-0 head.ensures.literal)

pub returns-in-Literal-default-clause-value : goal.returns-in-Literal-default-clause-value
returns-in-Literal-default-clause-value c =
    let head = c.in_ok-literal in
    value_literal c.args.s.now head.field-0.1.now (literal_of c.in-Literal-default.literal) _
    (literal_found c.args.s.now head.field-0 c.in-Literal-default.literal c.in-Literal-default.is-0 head.ensures.literal)
    c.literal_fault.ensures

pub returns-then-begins_index-clause-kind : goal.returns-then-begins_index-clause-kind
returns-then-begins_index-clause-kind c =
    let head = c.in_ok-literal in
    let name = c.in-Name-default in
    c.match_indexes.ensures.kind c.args.s.now (no_literal_found c.args.s.now head.field-0 name.name name.is-0 head.ensures.literal)
    (name_found c.args.s.now head.field-0 name.name name.is-0 head.ensures.name)

pub returns-then-begins_index-clause-value : goal.returns-then-begins_index-clause-value
returns-then-begins_index-clause-value c =
    let head = c.in_ok-literal in
    let name = c.in-Name-default in
    c.match_indexes.ensures.value c.args.s.now (no_literal_found c.args.s.now head.field-0 name.name name.is-0 head.ensures.literal)
    (name_found c.args.s.now head.field-0 name.name name.is-0 head.ensures.name)

pub returns-else-begins_index-clause-kind : goal.returns-else-begins_index-clause-kind
returns-else-begins_index-clause-kind c =
    let head = c.in_ok-literal in
    let name = c.in-Name-default in
    identifier_is c.args.s.now head.field-0.1.now name.name.now
    (no_literal_found c.args.s.now head.field-0 name.name name.is-0 head.ensures.literal)
    (name_found c.args.s.now head.field-0 name.name name.is-0 head.ensures.name)
    (no_index_here head.field-0.1.now _ (first_byte head.field-0.1.now _ _ c.as_bytes.ensures.value c.byte_at.ensures)
    (sym c.begins_index.ensures ∙ c.if-begins_index.false))

pub returns-else-begins_index-clause-value : goal.returns-else-begins_index-clause-value
returns-else-begins_index-clause-value c =
    let head = c.in_ok-literal in
    let name = c.in-Name-default in
    variable_end c.args.s.now head.field-0.1.now name.name.now
    (no_literal_found c.args.s.now head.field-0 name.name name.is-0 head.ensures.literal)
    (name_found c.args.s.now head.field-0 name.name name.is-0 head.ensures.name)
    (no_index_here head.field-0.1.now _ (first_byte head.field-0.1.now _ _ c.as_bytes.ensures.value c.byte_at.ensures)
    (sym c.begins_index.ensures ∙ c.if-begins_index.false))
