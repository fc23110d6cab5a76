use Rattle.std.proofs.Common.{[], append-nil, sym, ◌∙◌, ◌∷◌}
use Rattle.std.proofs.lemmas.List.{nil_from_length}
use Rattle.std.proofs.lemmas.Str.{IsUtf8-past_char, chars-nil, chars_past_char}
use Rattle.liquid_jekyll.proofs.TypographyLemmas.{passed}
use Rattle.liquid_jekyll.proofs.text.typography.characters_of.Goals as goal

pub loop-character-preserved : goal.loop-character-preserved
loop-character-preserved c =
    let held = c.loop-character.invariant in
    let parts = c.in-Some.ensures.steps.0 in
    record {
      text = IsUtf8-past_char _ _ c.in-Some.character held.text parts;
      whole = rw c.in_ok-push.ensures.items
          (passed c.loop-character.characters.items (c.in-Some.character ∷ []) _ _
          (rw (chars_past_char _ _ c.in-Some.character held.text parts) at held.whole));
    }

pub returns : goal.returns
returns c =
    let held = c.loop-character.invariant in
    let nothing = nil_from_length _ c.in-None.ensures.steps.0.0 in
    sym (append-nil _) ∙ rw (nothing, chars-nil) at held.whole
