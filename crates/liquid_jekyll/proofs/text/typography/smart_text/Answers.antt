use Rattle.liquid_strings.proofs.HtmlLemmas.{to_end}
use Rattle.liquid_jekyll.proofs.TypographyLemmas.{one_more}
use Rattle.liquid_jekyll.proofs.text.typography.smart_text.Goals as goal

pub loop-at-preserved : goal.loop-at-preserved
loop-at-preserved c =
    let cs = c.args.characters.now in
    let at = c.loop-at.at in
    let text = rw (to_end cs at) at c.in_ok-taken.ensures.text in
    let taken = rw (to_end cs at) at c.in_ok-taken.ensures.taken in
    rw (text, taken) (one_more _ _ c.loop-at.taken at cs c.loop-at-test.true c.loop-at.invariant)
