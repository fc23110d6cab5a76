use Rattle.liquid_grammar.proofs.TextLemmas.{digits_cut}
use Rattle.liquid_grammar.proofs.literal.digits.Goals as goal

pub split_at-requires : goal.split_at-requires
split_at-requires c = digits_cut c.args.s.now _ _ c.utf8.s c.as_bytes.ensures.value c.digit_len-len.ensures.len
