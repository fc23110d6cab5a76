use Rattle.std.proofs.Common.{ap, arith, sym, take, ◌∙◌, ◌<◌, ◌-◌, ◌≡◌, get_or, length}
use Rattle.liquid_jekyll.proofs.RunLemmas.{drops_last, keeps_last}
use Rattle.liquid_jekyll.proofs.text.runs.without_last.Goals as goal

pub returns-in-len1-up : goal.returns-in-len1-up
returns-in-len1-up c =
    let same = c.as_bytes.ensures.value in
    let within : 0 < length c.args.text.now = rw (sym same) (omega arith) in
    let last : get_or c.args.text.now (length c.args.text.now - 1) 0 ≡ c.args.by = rw (sym same) c.if-last-by.true in
    let whole : (length c.args.text.now - 1) - 0 ≡ length c.args.text.now - 1 = omega arith in
    c.range.ensures.value ∙ ap (λ n. take n c.args.text.now) whole ∙ sym (drops_last c.args.by c.args.text.now within last)

pub returns-in_default-2 : goal.returns-in_default-2
returns-in_default-2 c =
    let same = c.as_bytes.ensures.value in
    let within : 0 < length c.args.text.now = rw (sym same) (omega arith) in
    sym (keeps_last c.args.by c.args.text.now within (rw same at c.if-last-by.false))
