use Rattle.std.proofs.Common.{arith}
use Rattle.jekyll_source.proofs.CutLemmas.{cuts_end_run}
use Rattle.jekyll_source.proofs.splits.split_end_run.Goals as goal

pub split_at-requires : goal.split_at-requires
split_at-requires c = cuts_end_run c.args.set c.args.text.now c.end_run_len.result (omega arith)
