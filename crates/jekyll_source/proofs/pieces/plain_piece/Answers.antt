use Rattle.jekyll_source.proofs.PlainLemmas.{cuts_plain}
use Rattle.jekyll_source.proofs.pieces.plain_piece.Goals as goal

pub split_at-requires : goal.split_at-requires
split_at-requires c =
    rw (c.plain_len.ensures.value, c.as_bytes.ensures.value) (cuts_plain c.args.text.now c.requires)
