use Rattle.std.proofs.Common.{sym, ◌∙◌}
use Rattle.liquid_grammar.proofs.TextLemmas.{identifier_cut}
use Rattle.liquid_grammar.proofs.name.identifier.Goals as goal

pub split_at-requires-then-starts_name : goal.split_at-requires-then-starts_name
split_at-requires-then-starts_name c =
    identifier_cut c.args.s.now _ _ _ c.utf8.s c.as_bytes-bytes.ensures.value c.split_at.ensures.back c.name_len.ensures.len
    (sym c.starts_name.ensures ∙ c.if-starts_name.true)
