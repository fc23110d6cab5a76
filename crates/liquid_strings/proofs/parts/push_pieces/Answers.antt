use Rattle.std.proofs.Common.{◌++◌, ap, length, map, sym, ◌∙◌}
use Rattle.std.proofs.lemmas.Str.{IsCharBoundary-start}
use Rattle.liquid_strings.specs.meaning.Pieces.{pieces_between}
use Rattle.liquid_strings.proofs.PieceLemmas.{pushed}
use Rattle.liquid_strings.proofs.PlaceLemmas.{first_match, cut_before, cut_after}
use Rattle.liquid_strings.proofs.parts.push_pieces.Goals as goal

pub loop-at-init : goal.loop-at-init
loop-at-init c =
    let all = rw (c.as_bytes.ensures.value, c.as_bytes-2.ensures.value) at
    (c.into_iter-at-iterator.ensures.into_iter_gives ∙ c.find_iter-at-items.ensures.value) in
    record {
      cut = IsCharBoundary-start c.args.text.now c.utf8.text;
      places = all;
      whole = ap (λ places. map (λ p. p.now) c.args.pieces.now.items ++ pieces_between
          (length c.args.search.now) c.args.text.now 0 places) all;
    }

pub range-requires-clause-start_le_end : goal.range-requires-clause-start_le_end
range-requires-clause-start_le_end c =
    let held = c.loop-at.invariant in
    (first_match c.args.text.now c.args.search.now c.requires c.loop-at.from c.in-Some.at _ held.cut.0
    (sym held.places ∙ c.in-Some.ensures.steps)).low

pub range-requires-clause-end_boundary : goal.range-requires-clause-end_boundary
range-requires-clause-end_boundary c =
    let held = c.loop-at.invariant in
    let first = first_match c.args.text.now c.args.search.now c.requires c.loop-at.from c.in-Some.at _ held.cut.0
    (sym held.places ∙ c.in-Some.ensures.steps) in
    cut_before c.args.text.now c.args.search.now c.utf8.text c.utf8.search c.in-Some.at c.requires first.occurs

pub loop-at-preserved : goal.loop-at-preserved
loop-at-preserved c =
    let held = c.loop-at.invariant in
    let first = first_match c.args.text.now c.args.search.now c.requires c.loop-at.from c.in-Some.at _ held.cut.0
    (sym held.places ∙ c.in-Some.ensures.steps) in
    record {
      cut = cut_after c.args.text.now c.args.search.now c.utf8.text c.utf8.search c.in-Some.at
          (cut_before c.args.text.now c.args.search.now c.utf8.text c.utf8.search c.in-Some.at c.requires first.occurs) first.occurs;
      places = first.others;
      whole = pushed (λ p. p.now) c.loop-at.pieces.items c.push.new.self.items c.range.result _ _ _ c.in_ok-push.ensures.items
          c.range.ensures.value (rw c.in-Some.ensures.steps at held.whole);
    }
