use Rattle.std.proofs.Common.{◌++◌, ap, ◌∙◌}
use Rattle.liquid_strings.proofs.CutLemmas.{cut_words}
use Rattle.liquid_strings.proofs.truncation.truncate_words_after.Goals as goal

pub returns-then-goes_on : goal.returns-then-goes_on
returns-then-goes_on c =
    let more = rw (c.len.ensures, c.in_ok-words.words.ok.0) at c.if-goes_on.ensures in
    c.in_ok-push_str.ensures.bytes
    ∙ ap (λ l. l ++ c.args.ending.now) (rw c.deref.ensures.value at c.in_ok-front.ensures.ok)
    ∙ cut_words (λ p. p.now) c.in_ok-words.words.items c.args.count c.args.ending.now c.args.text.now c.in_ok-words.ensures more
