use Rattle.std.proofs.Common.{arith}
use Rattle.jekyll_source.specs.declared.splits.ByteSet.TheVariants.{Blank}
use Rattle.jekyll_source.proofs.CutLemmas.{cuts_run}
use Rattle.jekyll_source.proofs.tags.shorten_start.Goals as goal

pub split_at-requires : goal.split_at-requires
split_at-requires c = cuts_run Blank c.args.text.now c.utf8.text _ (omega arith)
