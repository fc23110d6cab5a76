use Rattle.std.proofs.Common.{◌<◌, ◌++◌, ap, arith, length, map}
use Rattle.std.proofs.lemmas.Str.{IsCharBoundary-start}
use Rattle.liquid_strings.specs.meaning.Tags.{without_after}
use Rattle.liquid_strings.specs.steps.Kinds.{kind_of}
use Rattle.liquid_strings.proofs.TagLemmas.{no_part, part}
use Rattle.liquid_strings.proofs.tags.leave_out.Goals as goal
use Rattle.liquid_strings.proofs.tags.leave_out.Goals.{in-Some+in_ok-push_str, in_default}

pub loop-at-init : goal.loop-at-init
loop-at-init c = record {
  cut = IsCharBoundary-start c.args.text.now c.utf8.text;
  whole = ap (λ l. l ++ without_after (map kind_of c.args.kinds.now) 0 c.args.text.now) c.in_ok-rest.ensures.bytes;
}

pub loop-at-preserved : goal.loop-at-preserved
loop-at-preserved c =
    let held = c.loop-at.invariant in
    let within : c.loop-at.at < length c.args.text.now = omega arith in
    elim c.match-end_from.branch [
      | in-Some+in_ok-push_str w ↦ rw (w.kept-is, w.rest-is) (record {
        cut = w.in-Some.ensures.cut;
        whole = rw (w.in_ok-push_str.ensures.bytes, w.range.ensures.value)
            (part (map kind_of c.args.kinds.now) c.args.text.now _ _ c.loop-at.kept c.loop-at.at within held.whole w.in-Some.end
            w.in-Some.ensures.after w.in-Some.ensures.value).1;
      })
      | in_default w ↦ rw (w.kept-is, w.rest-is) (record {
        cut = held.cut;
        whole = no_part (map kind_of c.args.kinds.now) c.args.text.now _ _ c.loop-at.kept c.loop-at.at within held.whole
            w.in_default.ensures.value;
      })
    ]
