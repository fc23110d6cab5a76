use Rattle.jekyll_source.proofs.TagLemmas.{named_by_parts}
use Rattle.jekyll_source.proofs.tags.split_name.Goals as goal

pub returns : goal.returns
returns c = named_by_parts c.args.text.now _ _ _ c.split_dash.ensures c.split_run.ensures c.split_run-2.ensures
