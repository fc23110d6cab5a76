use Rattle.std.proofs.Common.{sym, ◌∙◌}
use Rattle.liquid_grammar.proofs.FirstByteLemmas.{first_byte, no_index_here}
use Rattle.liquid_grammar.proofs.value.index.Goals as goal

pub returns-else-begins_index-clause-value : goal.returns-else-begins_index-clause-value
returns-else-begins_index-clause-value c =
    no_index_here c.args.s.now _ (first_byte c.args.s.now _ _ c.as_bytes.ensures.value c.byte_at.ensures)
    (sym c.begins_index.ensures ∙ c.if-begins_index.false)
