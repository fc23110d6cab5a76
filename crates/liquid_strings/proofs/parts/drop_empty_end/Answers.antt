use Rattle.std.proofs.Common.{◌≤◌, arith, ap, subst, sym, ◌∙◌, map, length}
use Rattle.std.proofs.lemmas.Bool.{eqb-true, eqb-false}
use Rattle.std.proofs.lemmas.List.{length-map, take_all}
use Rattle.std.specs.List.{take-map}
use Rattle.liquid_strings.specs.meaning.Split.{without_empty_end}
use Rattle.liquid_strings.proofs.WordLemmas.{still_kept, all_kept}
use Rattle.liquid_strings.proofs.parts.drop_empty_end.Goals as goal
use Rattle.liquid_strings.proofs.parts.drop_empty_end.Goals.{then-not-is_empty, else-not-is_empty}

pub loop-at-preserved : goal.loop-at-preserved
loop-at-preserved c =
    let held = c.loop-at.invariant in
    elim c.if-not-is_empty.branch [
      | then-not-is_empty w ↦ rw w.kept-is (record {
        order = omega arith;
        same = all_kept (λ p. p.now) c.deref-piece-items.result.now c.loop-at.at c.loop-at.kept _ c.loop-at-test.true
            (eqb-false _ _ (sym c.is_empty.ensures ∙ w.if-not-is_empty.true));
      })
      | else-not-is_empty w ↦ rw w.kept-is (record {
        order = omega arith;
        same = still_kept (λ p. p.now) c.deref-piece-items.result.now c.loop-at.at c.loop-at.kept _ c.loop-at-test.true
            (eqb-true _ _ (sym c.is_empty.ensures ∙ w.if-not-is_empty.false)) held.same;
      })
    ]

pub returns : goal.returns
returns c =
    let held = c.loop-at.invariant in
    let items = c.deref-piece-items.result.now in
    let short : length (map (λ p. p.now) items) ≤ c.loop-at.at = subst (λ n. n ≤ c.loop-at.at)
    (sym (length-map items (λ p. p.now))) c.loop-at-test.false in
    rw (sym c.deref-piece-items.ensures.value) (
    ap (map (λ p. p.now)) (rw (sym c.deref-piece-items.ensures.value) at c.truncate.ensures.items)
    ∙ sym (take-map (λ p. p.now) c.loop-at.kept items)
    ∙ held.same
    ∙ ap without_empty_end (take_all c.loop-at.at (map (λ p. p.now) items) short))
