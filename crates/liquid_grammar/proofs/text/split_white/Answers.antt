use Rattle.liquid_grammar.proofs.TextLemmas.{IsCharBoundary-white_run}
use Rattle.liquid_grammar.proofs.text.split_white.Goals as goal

pub split_at-requires : goal.split_at-requires
split_at-requires c =
    rw (c.white_len.ensures.len, c.as_bytes.ensures.value) (IsCharBoundary-white_run c.args.s.now c.utf8.s)
