use Rattle.liquid_grammar.proofs.TextLemmas.{quoted_cut}
use Rattle.liquid_grammar.proofs.literal.read_quoted.Goals as goal

pub split_at-requires : goal.split_at-requires
split_at-requires c = quoted_cut _ _ c.args.quote _ c.requires c.as_bytes.ensures.value c.quoted_len.ensures.len
