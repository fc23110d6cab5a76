use Rattle.std.proofs.Common.{◌++◌, sym, ap, ◌∙◌, append-nil}
use Rattle.std.specs.Str.{encode_utf8_all}
use Rattle.std.proofs.lemmas.List.{nil_from_length}
use Rattle.std.specs.Char.Unicode.ToUppercase.{to_uppercase}
use Rattle.liquid_strings.specs.meaning.Cases.{capitalized, lowercased}
use Rattle.liquid_strings.proofs.CharacterSteps.{capitalized_step, capitalized_empty, no_more}
use Rattle.liquid_strings.proofs.cases.capitalize.Goals as goal
use Rattle.liquid_strings.proofs.cases.capitalize.Goals.{in-Some+in-None+in_ok-push_lowercase, in_default}

pub returns : goal.returns
returns c =
    let whole = c.chars-characters.ensures.rest in
    elim c.match-next.branch [
      | in-Some+in-None+in_ok-push_lowercase w ↦
          let first = rw (
            no_more _ w.loop-character.invariant.no_gap w.in-None.ensures.steps.0,
            w.into_iter-character-iterator.ensures.into_iter_gives,
            w.to_uppercase-character-items.ensures.value,
          ) at w.loop-character.invariant.whole in
          rw w.capitalized-is (
          w.in_ok-push_lowercase.ensures
          ∙ ap (λ l. l ++ lowercased w.as_str.result.now) (sym (append-nil _) ∙ first)
          ∙ ap (λ l. encode_utf8_all (to_uppercase w.in-Some.first) ++ lowercased l) w.as_str.ensures
          ∙ sym (capitalized_step _ _ w.in-Some.first c.utf8.text (sym whole ∙ w.in-Some.ensures.steps.0)))
      | in_default w ↦
          let nothing = sym whole ∙ nil_from_length _ w.in_default.ensures.steps.0.0 in
          rw w.capitalized-is (c.in_ok-capitalized.ensures.bytes ∙ sym (ap capitalized nothing ∙ capitalized_empty))
    ]
