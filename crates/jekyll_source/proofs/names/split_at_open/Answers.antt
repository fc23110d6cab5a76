use Rattle.jekyll_source.proofs.NamePartLemmas.{cuts_at_brace}
use Rattle.jekyll_source.proofs.names.split_at_open.Goals as goal

pub split_at-requires : goal.split_at-requires
split_at-requires c =
    let same = c.as_bytes.ensures.value in
    cuts_at_brace c.args.name.now c.text_len.result (rw same at c.text_len.ensures.within) (rw same at c.text_len.ensures.stops)
