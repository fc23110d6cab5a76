use Rattle.jekyll_source.proofs.CutLemmas.{cuts_end_dash}
use Rattle.jekyll_source.proofs.splits.split_end_dash.Goals as goal

pub split_at-requires : goal.split_at-requires
split_at-requires c =
    rw (c.end_dash_len.ensures.value, c.as_bytes.ensures.value)
    (cuts_end_dash c.args.text.now (rw (c.end_dash_len.ensures.value, c.as_bytes.ensures.value) at c.end_dash_len.ensures.within))
