use Rattle.std.proofs.Common.{◌≡◌, ◌≤◌, length, drop, arith}
use Rattle.std.specs.List.{prefix_len}
use Rattle.liquid_strings.proofs.HtmlLemmas.{to_end}
use Rattle.liquid_jekyll.specs.meaning.text.Numerals.{is_digit}
use Rattle.liquid_jekyll.proofs.NumeralLemmas.{ends_digits}
use Rattle.liquid_jekyll.proofs.text.numerals.numeral_at.Goals as goal

pub range-requires-clause-end_boundary : goal.range-requires-clause-end_boundary
range-requires-clause-end_boundary c =
    let same = c.as_bytes-bytes.ensures.value in
    let start : c.sign_length-sign.result ≤ length c.args.text.now = rw same at c.sign_length-sign.ensures.within in
    let count : c.digit_count.result ≡ prefix_len is_digit (drop c.sign_length-sign.result c.args.text.now) =
    rw (same, to_end c.args.text.now c.sign_length-sign.result) at c.digit_count.ensures.value in
    ends_digits c.args.text.now c.sign_length-sign.result c.digit_count.result c.utf8.text (omega arith) start count
