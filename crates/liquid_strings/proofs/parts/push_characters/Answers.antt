use Rattle.std.proofs.Common.{refl, sym, ◌∙◌, append-nil}
use Rattle.std.specs.Char.{encode_utf8}
use Rattle.std.proofs.lemmas.List.{nil_from_length}
use Rattle.std.proofs.lemmas.Str.{IsUtf8-past_char, chars-nil}
use Rattle.liquid_strings.proofs.CharacterSteps.{encoded_step, cuts_first}
use Rattle.liquid_strings.proofs.PieceLemmas.{pushed}
use Rattle.liquid_strings.proofs.parts.push_characters.Goals as goal

pub split_at-requires : goal.split_at-requires
split_at-requires c =
    let held = c.loop-character.invariant in
    (cuts_first c.loop-character.rest.now _ c.in-Some.character c.len_utf8.result held.is_text
    (held.same ∙ c.in-Some.ensures.steps.0) c.len_utf8.ensures.len).cut

pub loop-character-preserved : goal.loop-character-preserved
loop-character-preserved c =
    let held = c.loop-character.invariant in
    let e = held.same ∙ c.in-Some.ensures.steps.0 in
    let first = cuts_first c.loop-character.rest.now _ c.in-Some.character c.len_utf8.result held.is_text e c.len_utf8.ensures.len in
    let others = c.split_at.ensures.back ∙ first.back in
    rw others (record {
      is_text = IsUtf8-past_char _ _ c.in-Some.character held.is_text e;
      same = refl;
      whole = pushed (λ p. p.now) c.loop-character.pieces.items c.push.new.self.items c.split_at.result.0
          (encode_utf8 c.in-Some.character) _ _ c.in_ok-push.ensures.items (c.split_at.ensures.front ∙ first.front)
          (rw (encoded_step _ _ c.in-Some.character held.is_text e) at held.whole);
    })

pub returns : goal.returns
returns c =
    let held = c.loop-character.invariant in
    let nothing = held.same ∙ nil_from_length _ c.in-None.ensures.steps.0.0 in
    sym (append-nil _) ∙ rw (nothing, chars-nil) at held.whole
