use Rattle.std.proofs.Common.{sym, ◌∙◌, arith, rules}
use Rattle.liquid_grammar.proofs.TextLemmas.{IsCharBoundary-before_rest}
use Rattle.liquid_parser.proofs.EscapeLemmas.{going_next, going_end, going_after}
use Rattle.liquid_parser.proofs.Slices.{front_ends}
use Rattle.liquid_grammar.proofs.Exact.{front_of}
use Rattle.liquid_parser.proofs.reading.escape.escape.Goals as goal

pub elements-preserved : goal.elements-preserved
elements-preserved c =
    let found = c.in-Some.ensures.found in (
      search rules,
      omega (arith, c.in-Some-level_after.ensures.within, c.in-Some.ensures.shorter, c.elements.invariant.1),
      going_next _ _ _ _ _ _ found.0 _ _ c.elements.invariant.2 found.1
          (sym (c.in-Some-level_after.ensures.value _ _ found.0 found.1 found.2)),
    )

pub split_at-requires : goal.split_at-requires
split_at-requires c =
    IsCharBoundary-before_rest c.args.body.now c.elements.rest.now c.elements.invariant.0
    (front_ends c.args.body.now c.elements.invariant.2.so_far c.elements.rest.now c.elements.invariant.2.whole)

pub returns-in-None-clause-value : goal.returns-in-None-clause-value
returns-in-None-clause-value c es cover =
    let found = c.in-Some.ensures.found in
    going_end _ _ _ _ _ _ _ found.0 _ c.elements.invariant.2 found.1 (sym (c.in-None.ensures.value _ _ found.0 found.1 found.2))
    (sym (c.split_at.ensures.front ∙ front_of c.args.body.now c.elements.invariant.2.so_far c.elements.rest.now
    c.elements.invariant.2.whole)) es cover

pub returns-in-None-clause-within : goal.returns-in-None-clause-within
returns-in-None-clause-within c =
    let found = c.in-Some.ensures.found in
    going_after _ _ _ _ _ _ found.0 _ c.elements.invariant.2 found.1
