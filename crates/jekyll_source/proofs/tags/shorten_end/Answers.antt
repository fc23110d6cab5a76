use Rattle.std.proofs.Common.{arith}
use Rattle.jekyll_source.specs.declared.splits.ByteSet.TheVariants.{Blank}
use Rattle.jekyll_source.proofs.CutLemmas.{cuts_end_run}
use Rattle.jekyll_source.proofs.tags.shorten_end.Goals as goal

pub split_at-requires : goal.split_at-requires
split_at-requires c = cuts_end_run Blank c.args.text.now _ (omega arith)
