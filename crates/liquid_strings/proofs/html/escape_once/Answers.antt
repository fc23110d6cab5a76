use Rattle.std.proofs.Common.{◌<◌, ◌+◌, ◌++◌, ap, drop, length, arith}
use Rattle.std.proofs.lemmas.Str.{IsCharBoundary-start, IsCharBoundary-after_ascii}
use Rattle.liquid_strings.specs.meaning.Escape.{escaped_once}
use Rattle.liquid_strings.proofs.HtmlLemmas.{needed_is_ascii, to_end, once_entity, once_kept}
use Rattle.liquid_strings.proofs.html.escape_once.Goals as goal
use Rattle.liquid_strings.proofs.html.escape_once.Goals.{in-Some+in_ok-push_str+in_ok-push_str-2, in_default}

pub loop-at-init : goal.loop-at-init
loop-at-init c = record {
  order = omega arith;
  cut = IsCharBoundary-start c.args.text.now c.utf8.text;
  whole = ap (λ l. l ++ escaped_once c.args.text.now) c.in_ok-escaped.ensures.bytes;
}

pub loop-at-preserved : goal.loop-at-preserved
loop-at-preserved c =
    let held = c.loop-at.invariant in
    let within : c.loop-at.at < length c.args.text.now = omega arith in
    elim c.match-needed_entity.branch [
      | in-Some+in_ok-push_str+in_ok-push_str-2 w ↦
          let some = rw (
            c.as_bytes-byte-items.ensures.value,
            c.as_bytes.ensures.value,
            to_end c.args.text.now
                (c.loop-at.at + 1),
          ) at w.in-Some.ensures in
          rw (w.kept-is, w.escaped-is) (record {
            order = omega arith;
            cut = IsCharBoundary-after_ascii c.args.text.now c.loop-at.at c.utf8.text within
                (needed_is_ascii _ (drop (c.loop-at.at + 1) c.args.text.now) w.in-Some.entity.now some);
            whole = rw (w.in_ok-push_str-2.ensures.bytes, w.in_ok-push_str.ensures.bytes, w.range.ensures.value)
                (once_entity c.args.text.now _ _ c.loop-at.kept c.loop-at.at held.order within held.whole w.in-Some.entity.now some);
          })
      | in_default w ↦ rw (w.kept-is, w.escaped-is) (record {
        order = omega arith;
        cut = held.cut;
        whole = once_kept c.args.text.now _ _ c.loop-at.kept c.loop-at.at held.order within held.whole
            (rw (
              c.as_bytes-byte-items.ensures.value,
              c.as_bytes.ensures.value,
              to_end c.args.text.now
                  (c.loop-at.at + 1),
            ) at w.in_default.ensures);
      })
    ]
