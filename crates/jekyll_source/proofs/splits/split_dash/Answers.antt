use Rattle.jekyll_source.proofs.CutLemmas.{cuts_dash}
use Rattle.jekyll_source.proofs.splits.split_dash.Goals as goal

pub split_at-requires : goal.split_at-requires
split_at-requires c =
    rw (c.dash_len.ensures.value, c.as_bytes.ensures.value)
    (cuts_dash c.args.text.now c.utf8.text (rw (c.dash_len.ensures.value, c.as_bytes.ensures.value) at c.dash_len.ensures.within))
