use Rattle.std.proofs.Common.{ℕ, List, sym, refl, ap₂, ◌∙◌, ◌++◌, take, ◌-◌, length}
use Rattle.liquid_grammar.specs.meaning.Cover.{tag_element, expression, invalid}
use Rattle.liquid_grammar.proofs.CoverLemmas.{
  tag_found,
  expression_found,
  no_tag,
  no_expression,
  tag_ends,
  expression_ends,
  tag_element_is,
  expression_is,
  invalid_is,
  brace_found,
}
use Rattle.liquid_grammar.proofs.element.opener_element.Goals as goal

pub before-requires-clause-ends : goal.before-requires-clause-ends
before-requires-clause-ends c =
    let found = tag_found c.args.s.now _ _ c.in-Some.found.rest.now _ c.in-Some.ensures.value in
    tag_ends c.args.s.now c.in-Some.found.rest.now found.0 found.1

pub returns-in-Some : goal.returns-in-Some
returns-in-Some c =
    let found = tag_found c.args.s.now _ _ c.in-Some.found.rest.now _ c.in-Some.ensures.value in (
      tag_element found.0 (take (length c.args.s.now - length c.in-Some.found.rest.now) c.args.s.now),
      tag_element_is c.args.s.now c.in-Some.found.rest.now found.0 found.1,
      record {
        place_is = c.in-Some.ensures.place ∙ ap₂ (λ (x y : List ℕ). x ++ y) found.2 found.3;
        name_is = found.2;
        tokens_are =
            found.3;
        text_is = c.before-in-Some.ensures;
        fault_is = found.4;
      },
    )

pub before-requires-in-Some-expression-clause-ends : goal.before-requires-in-Some-expression-clause-ends
before-requires-in-Some-expression-clause-ends c =
    let found = expression_found c.args.s.now _ c.in-Some-expression.rest.now _ _ c.in-Some-expression.ensures.kind
    c.in-Some-expression.ensures.value in
    expression_ends c.args.s.now c.in-Some-expression.rest.now found.0 found.1

pub returns-in-Some-expression : goal.returns-in-Some-expression
returns-in-Some-expression c =
    let found = expression_found c.args.s.now _ c.in-Some-expression.rest.now _ _ c.in-Some-expression.ensures.kind
    c.in-Some-expression.ensures.value in (
      expression found.0 (take (length c.args.s.now - length c.in-Some-expression.rest.now) c.args.s.now),
      expression_is c.args.s.now c.in-Some-expression.rest.now found.0 (no_tag c.args.s.now c.in-None.ensures.value) found.1,
      record { chain_is = found.2; kind_is = found.4; text_is = c.before-in-Some-expression.ensures; fault_is = found.3 },
    )

pub unreachable-requires : goal.unreachable-requires
unreachable-requires c = brace_found c.args.s.now c.requires (sym c.in-None-lone_brace.ensures)

pub returns-in-Some-lone_brace : goal.returns-in-Some-lone_brace
returns-in-Some-lone_brace c = (
  invalid c.in-Some-lone_brace.brace.now,
  invalid_is c.args.s.now c.in-Some-lone_brace.rest.now c.in-Some-lone_brace.brace.now c.requires
      (no_tag c.args.s.now c.in-None.ensures.value) (no_expression c.args.s.now c.in-None-expression.ensures.value)
      (sym c.in-Some-lone_brace.ensures),
  refl,
)
