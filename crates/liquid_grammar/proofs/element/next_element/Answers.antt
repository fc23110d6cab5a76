use Rattle.std.proofs.Common.{ℕ, ◌<◌, List, length, refl, sym, ◌∙◌, arith, eqb-true, subst₂}
use Rattle.std.proofs.lemmas.Bool.{eqb-false}
use Rattle.liquid_grammar.specs.declared.element.Element.TheVariants.{Raw}
use Rattle.liquid_grammar.specs.meaning.Cover.{IsElement, raw}
use Rattle.liquid_grammar.proofs.CoverLemmas.{only_element, element_some, raw_element}
use Rattle.liquid_grammar.proofs.element.next_element.Goals as goal

pub returns-then-is_empty-clause-only : goal.returns-then-is_empty-clause-only
returns-then-is_empty-clause-only c = λ rest e m.
    let empty = eqb-true (length c.args.text.now) 0 (sym c.is_empty.ensures ∙ c.if-is_empty.true) in
    let some = element_some c.args.text.now rest e m in
    absurd (omega (arith, empty, some))

pub returns-then-is_empty-2-clause-only : goal.returns-then-is_empty-2-clause-only
returns-then-is_empty-2-clause-only c =
    λ rest e m. only_element _ _ c.opener_element.result.0 c.opener_element.ensures.0 c.opener_element.ensures.1
    c.opener_element.ensures.2 rest e m

pub returns-then-is_empty-2-clause-shorter : goal.returns-then-is_empty-2-clause-shorter
returns-then-is_empty-2-clause-shorter c = element_some _ _ c.opener_element.ensures.0 c.opener_element.ensures.1

found_raw : (c : goal.After-rest-else-is_empty-2-1) → IsElement c.args.text.now c.split_at.result.1.now (raw c.split_at.result.0.now)
found_raw c =
    let n = c.raw_len.result in
    let some : 0 < n = omega (
      arith,
      c.split_at.ensures.front_len,
      eqb-false (length c.split_at.result.0.now) 0
          (sym c.is_empty-2.ensures ∙ c.if-is_empty-2.false),
    ) in
    let is = raw_element c.args.text.now n some c.raw_len.ensures.within c.raw_len.ensures.ends.closed c.raw_len.ensures.ends.stops in
    subst₂ (λ (x y : List ℕ). IsElement c.args.text.now x (raw y)) (sym c.split_at.ensures.back) (sym c.split_at.ensures.front) is

pub returns-else-is_empty-2-clause-found : goal.returns-else-is_empty-2-clause-found
returns-else-is_empty-2-clause-found c = (raw c.split_at.result.0.now, found_raw c, refl)

pub returns-else-is_empty-2-clause-only : goal.returns-else-is_empty-2-clause-only
returns-else-is_empty-2-clause-only c = λ rest e m. only_element _ _ (Raw c.split_at.result.0) (raw c.split_at.result.0.now)
    (found_raw c) refl rest e m
