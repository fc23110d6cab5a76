use Rattle.std.proofs.Common.{sym, ◌∙◌}
use Rattle.liquid_grammar.proofs.TextLemmas.{symbol_cut, double_cut}
use Rattle.liquid_grammar.proofs.token.symbol.Goals as goal

pub range_from-requires : goal.range_from-requires
range_from-requires c _ = double_cut _ _ c.utf8.s c.as_bytes-bytes.ensures.value c.if-bytes-gt1.true
    (sym c.is_double.ensures ∙ c.if-is_double.true)

pub range_from-requires-then-is_single : goal.range_from-requires-then-is_single
range_from-requires-then-is_single c _ = symbol_cut _ _ c.utf8.s c.as_bytes-bytes.ensures.value c.if-bytes-gt0.true
    (sym c.is_single.ensures ∙ c.if-is_single.true)
