use Rattle.std.proofs.Common.{arith}
use Rattle.jekyll_source.proofs.CutLemmas.{cuts_run}
use Rattle.jekyll_source.proofs.splits.split_run.Goals as goal

pub split_at-requires : goal.split_at-requires
split_at-requires c = cuts_run c.args.set c.args.text.now c.utf8.text c.run_len.result (omega arith)
