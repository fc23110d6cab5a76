use Rattle.std.proofs.Common.{rules}
use Rattle.liquid_c.proofs.JekyllLemmas.{bytes_read, text_read}
use Rattle.liquid_c.proofs.jekyll.read_text.Goals as goal

pub returns-in_ok-jekyll_text-in-Ok : goal.returns-in_ok-jekyll_text-in-Ok
returns-in_ok-jekyll_text-in-Ok c =
    text_read c.args.bytes.now c.in-Ok.text.now c.into_bytes.result.items c.in-Ok.ensures.cases.0 c.in-Ok.ensures.cases.1 (search rules)

pub returns-in-Err : goal.returns-in-Err
returns-in-Err c = bytes_read (λ v. v.items) c.from_slice.result c.args.bytes.now c.in-Err.ensures.cases.0 c.from_slice.ensures.items
