use Rattle.jekyll_source.proofs.TagLemmas.{tag_by_parts}
use Rattle.jekyll_source.proofs.tags.split_tag.Goals as goal

pub returns : goal.returns
returns c =
    tag_by_parts c.args.inner.now _ _ _ c.split_dash.ensures c.split_run.ensures c.split_run-2.ensures _ _ _ c.split_run-3.ensures
    c.split_end_dash.ensures c.split_end_run.ensures
