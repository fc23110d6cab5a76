use Rattle.std.proofs.Common.{sym, ◌∙◌, string_bytes}
use Rattle.std.specs.Str.{chars, encode_utf8_all}
use Rattle.liquid_jekyll.specs.meaning.text.CharacterSets.{contains}
use Rattle.liquid_jekyll.specs.meaning.text.Runs.{with_runs_as}
use Rattle.std.proofs.lemmas.Str.{IsUtf8-past_char}
use Rattle.liquid_jekyll.proofs.RunLemmas.{unwritten_in, unwritten_after, unwritten_alone}
use Rattle.liquid_jekyll.proofs.text.runs.with_runs_as.Goals as goal
use Rattle.liquid_jekyll.proofs.text.runs.with_runs_as.Goals.{then-in_run+in_ok-push, else-in_run}

pub loop-character-preserved-then-contains : goal.loop-character-preserved-then-contains
loop-character-preserved-then-contains c =
    let held = c.loop-character.invariant in
    let parts = c.in-Some.ensures.steps.0 in
    record {
      text = IsUtf8-past_char _ _ c.in-Some.character held.text parts;
      whole = unwritten_in _ _ c.in-Some.character held.text parts _ _ _ _ _ (sym c.contains.ensures ∙ c.if-contains.true) held.whole;
    }

pub loop-character-preserved : goal.loop-character-preserved
loop-character-preserved c =
    let held = c.loop-character.invariant in
    let parts = c.in-Some.ensures.steps.0 in
    let fails = sym c.contains.ensures ∙ c.if-contains.false in
    let test = contains c.args.set in
    let whole = encode_utf8_all (with_runs_as test c.args.by (chars c.args.text.now)) in
    let out = string_bytes c.loop-character.replaced in
    record {
      text = IsUtf8-past_char _ _ c.in-Some.character held.text parts;
      whole = elim c.if-in_run.branch [
        | then-in_run+in_ok-push w ↦ rw (c.in_ok-push-2.ensures.bytes, w.in_run-is, w.replaced-is, w.in_ok-push.ensures.bytes)
            (unwritten_after _ _ c.in-Some.character held.text parts c.args.by test out whole fails (rw w.if-in_run.true at held.whole))
        | else-in_run w ↦ rw (c.in_ok-push-2.ensures.bytes, w.replaced-is, w.in_run-is, w.if-in_run.false)
            (unwritten_alone _ _ c.in-Some.character held.text parts c.args.by test out whole fails (rw w.if-in_run.false at held.whole))
      ];
    }
