use Rattle.std.proofs.Common.{arith, sym, ◌<◌, get_or}
use Rattle.std.proofs.lemmas.Str.{IsCharBoundary-after_ascii}
use Rattle.liquid_jekyll.proofs.text.runs.without_first.Goals as goal

pub range_from-requires : goal.range_from-requires
range_from-requires c =
    let same = c.as_bytes.ensures.value in
    let ascii : get_or c.args.text.now 0 0 < 128 = rw (sym same) (omega arith) in
    λ _. IsCharBoundary-after_ascii c.args.text.now 0 c.utf8.text (rw (sym same) (omega arith)) ascii
