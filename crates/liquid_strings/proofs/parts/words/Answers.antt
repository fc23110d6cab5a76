use Rattle.std.proofs.Common.{refl, sym, ◌∙◌, append-nil}
use Rattle.liquid_strings.proofs.PieceLemmas.{pushed}
use Rattle.liquid_strings.proofs.WordLemmas.{words_of_white, words_step}
use Rattle.liquid_strings.proofs.parts.words.Goals as goal

pub loop-word-preserved : goal.loop-word-preserved
loop-word-preserved c =
    let held = c.loop-word.invariant in
    let step = words_step _ c.in-Some.word.now _ held.text c.in-Some.ensures.steps in
    record {
      text = step.0;
      whole = pushed (λ p. p.now) c.loop-word.words.items c.push.new.self.items c.in-Some.word c.in-Some.word.now _ _
          c.in_ok-push.ensures.items refl (rw step.1 at held.whole);
    }

pub returns : goal.returns
returns c =
    let held = c.loop-word.invariant in
    sym (append-nil _) ∙ rw (words_of_white _ held.text c.in-None.ensures.steps.1) at held.whole
