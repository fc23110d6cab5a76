use Rattle.std.proofs.Common.{arith, sym, ◌<◌, get_or, length}
use Rattle.std.proofs.lemmas.Str.{IsCharBoundary-after_ascii}
use Rattle.jekyll_source.proofs.parameters.first_quote.Goals as goal

pub range_from-requires : goal.range_from-requires
range_from-requires c =
    let same = c.as_bytes-bytes.ensures.value in
    let within : 0 < length c.args.text.now = rw (sym same) (omega arith) in
    let ascii : get_or c.args.text.now 0 0 < 128 = rw (sym same) (omega arith) in
    λ _. IsCharBoundary-after_ascii c.args.text.now 0 c.utf8.text within ascii

pub range_from-requires-in-39 : goal.range_from-requires-in-39
range_from-requires-in-39 c =
    let same = c.as_bytes-bytes.ensures.value in
    let within : 0 < length c.args.text.now = rw (sym same) (omega arith) in
    let ascii : get_or c.args.text.now 0 0 < 128 = rw (sym same) (omega arith) in
    λ _. IsCharBoundary-after_ascii c.args.text.now 0 c.utf8.text within ascii
