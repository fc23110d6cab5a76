use Rattle.std.proofs.Common.{arith, sym, ◌<◌, get_or, length}
use Rattle.std.proofs.lemmas.Str.{IsCharBoundary-after_ascii}
use Rattle.jekyll_source.proofs.splits.after_opener.Goals as goal

pub range_from-requires : goal.range_from-requires
range_from-requires c =
    let same = c.as_bytes.ensures.value in
    let within : 1 < length c.args.text.now = rw (sym same) (omega arith) in
    let ascii : get_or c.args.text.now 1 0 < 128 = rw (sym same) (omega arith) in
    λ _. IsCharBoundary-after_ascii c.args.text.now 1 c.utf8.text within ascii
