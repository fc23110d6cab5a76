use Rattle.std.proofs.Common.{sym, ◌∙◌, append-nil}
use Rattle.std.proofs.lemmas.List.{nil_from_length}
use Rattle.std.proofs.lemmas.Str.{IsUtf8-past_char}
use Rattle.liquid_strings.proofs.CharacterSteps.{lowercased_step, lowercased_empty, no_more, written_more}
use Rattle.liquid_strings.proofs.cases.push_lowercase.Goals as goal

pub loop-character-preserved : goal.loop-character-preserved
loop-character-preserved c =
    let held = c.loop-character.invariant in
    let parts = c.in-Some.ensures.steps.0 in
    let inner = c.loop-lower.invariant in
    let done = rw (
      no_more _ inner.no_gap c.in-None-lower.ensures.steps.0,
      c.into_iter-lower-iterator.ensures.into_iter_gives,
      c.to_lowercase-lower-items.ensures.value,
    ) at inner.whole in
    record {
      text = IsUtf8-past_char _ _ c.in-Some.character held.text parts;
      whole = written_more _ _ _ _ _ _ done (lowercased_step _ _ c.in-Some.character held.text parts) held.whole;
    }

pub returns : goal.returns
returns c =
    let nothing = nil_from_length _ c.in-None.ensures.steps.0.0 in
    sym (append-nil _) ∙ rw (nothing, lowercased_empty) at c.loop-character.invariant.whole
