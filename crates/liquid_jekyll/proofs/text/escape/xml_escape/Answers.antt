use Rattle.std.proofs.Common.{◌<◌, length, arith, sym, ◌∙◌, append-nil}
use Rattle.std.proofs.lemmas.Str.{IsCharBoundary-start, IsCharBoundary-after_ascii}
use Rattle.liquid_jekyll.proofs.EscapeLemmas.{entity_is_ascii, kept_more, entity_more}
use Rattle.liquid_jekyll.proofs.text.escape.xml_escape.Goals as goal
use Rattle.liquid_jekyll.proofs.text.escape.xml_escape.Goals.{in-Some+in_ok-push_str+in_ok-push_str-2, in_default}

pub loop-at-init : goal.loop-at-init
loop-at-init c = record {
  order = omega arith;
  cut = IsCharBoundary-start c.args.text.now c.utf8.text;
  whole = append-nil _ ∙ c.in_ok-escaped.ensures.bytes;
}

pub loop-at-preserved : goal.loop-at-preserved
loop-at-preserved c =
    let held = c.loop-at.invariant in
    let within : c.loop-at.at < length c.args.text.now = omega arith in
    elim c.match-xml_entity.branch [
      | in-Some+in_ok-push_str+in_ok-push_str-2 w ↦ rw (w.kept-is, w.escaped-is) (record {
        order = omega arith;
        cut = IsCharBoundary-after_ascii c.args.text.now c.loop-at.at c.utf8.text within
            (entity_is_ascii _ w.in-Some.entity.now (sym (rw c.as_bytes-byte-items.ensures.value at w.in-Some.ensures)));
        whole = rw (w.in_ok-push_str-2.ensures.bytes, w.in_ok-push_str.ensures.bytes, w.range.ensures.value)
            (entity_more c.args.text.now _ c.loop-at.kept c.loop-at.at held.order within held.whole w.in-Some.entity.now
            (rw c.as_bytes-byte-items.ensures.value at w.in-Some.ensures));
      })
      | in_default w ↦ rw (w.kept-is, w.escaped-is) (record {
        order = omega arith;
        cut = held.cut;
        whole = kept_more c.args.text.now _ c.loop-at.kept c.loop-at.at held.order within held.whole
            (rw c.as_bytes-byte-items.ensures.value at w.in_default.ensures);
      })
    ]
