use Rattle.std.proofs.Common.{arith, sym, ◌∙◌}
use Rattle.std.proofs.lemmas.Str.{IsUtf8-past_char}
use Rattle.liquid_jekyll.proofs.RunLemmas.{chars_fit, count_new, count_old, count_none, fewer_chars}
use Rattle.liquid_jekyll.proofs.text.runs.run_count.Goals as goal
use Rattle.liquid_jekyll.proofs.text.runs.run_count.Goals.{
  else-contained-via-then-contained+else-not-in_run,
  else-contained-via-else-contained,
}

pub loop-character-init : goal.loop-character-init
loop-character-init c = rw (c.into_iter-character-iterator.ensures.into_iter_gives, c.chars-character-items.ensures.rest) (record {
  text = c.utf8.text;
  room = omega (arith, chars_fit c.args.text.now c.utf8.text);
  whole = omega arith;
})

pub loop-character-preserved-then-not-in_run : goal.loop-character-preserved-then-not-in_run
loop-character-preserved-then-not-in_run c =
    let held = c.loop-character.invariant in
    let parts = c.in-Some.ensures.steps.0 in
    record {
      text = IsUtf8-past_char _ _ c.in-Some.character held.text parts;
      room = omega (arith, fewer_chars _ _ c.in-Some.character held.text parts);
      whole = rw c.if-contained.true (count_new _ _ c.in-Some.character held.text parts _ _ _
          (sym c.contains-contained.ensures ∙ c.if-contained.true) (rw c.if-not-in_run.true at held.whole));
    }

pub loop-character-preserved : goal.loop-character-preserved
loop-character-preserved c =
    let held = c.loop-character.invariant in
    let parts = c.in-Some.ensures.steps.0 in
    record {
      text = IsUtf8-past_char _ _ c.in-Some.character held.text parts;
      room = omega (arith, fewer_chars _ _ c.in-Some.character held.text parts);
      whole = elim c.else-contained.branch [
        | else-contained-via-then-contained+else-not-in_run w ↦ rw w.if-contained.true
            (count_old _ _ c.in-Some.character held.text parts _ _ _
            (sym c.contains-contained.ensures ∙ w.if-contained.true) (rw w.if-not-in_run.false at held.whole))
        | else-contained-via-else-contained w ↦ rw w.if-contained.false
            (count_none _ _ c.in-Some.character held.text parts _ _ _ _
            (sym c.contains-contained.ensures ∙ w.if-contained.false) held.whole)
      ];
    }
