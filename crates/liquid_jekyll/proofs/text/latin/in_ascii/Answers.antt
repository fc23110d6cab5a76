use Rattle.std.proofs.Common.{append-nil, sym, ◌∙◌}
use Rattle.std.proofs.lemmas.List.{nil_from_length}
use Rattle.std.proofs.lemmas.Str.{IsUtf8-past_char, chars-nil}
use Rattle.liquid_jekyll.proofs.AsciiLemmas.{ascii_step}
use Rattle.liquid_jekyll.proofs.text.latin.in_ascii.Goals as goal

pub loop-character-preserved : goal.loop-character-preserved
loop-character-preserved c =
    let held = c.loop-character.invariant in
    let parts = c.in-Some.ensures.steps.0 in
    record {
      text = IsUtf8-past_char _ _ c.in-Some.character held.text parts;
      whole = rw c.in_ok-push_ascii.ensures (ascii_step _ _ c.in-Some.character held.text parts _ _ held.whole);
    }

pub returns : goal.returns
returns c =
    let held = c.loop-character.invariant in
    let nothing = nil_from_length _ c.in-None.ensures.steps.0.0 in
    sym (append-nil _) ∙ rw (nothing, chars-nil) at held.whole
