use Rattle.liquid_std.proofs.ReadLemmas.{holds_read, passes_read}
use Rattle.liquid_plugins.specs.meaning.ExpressionOf.{expression_of}
use Rattle.liquid_std.proofs.conditions.read_condition.next_test.Goals as goal

pub returns-in_ok-right-in-Some-clause-value : goal.returns-in_ok-right-in-Some-clause-value
returns-in_ok-right-in-Some-clause-value c ts at =
    let left = c.in_ok-left.ensures.value ts at in
    let op = c.in-Some.ensures.value left.0 left.2 in
    let right = c.in_ok-right-in-Some.ensures.value op.0 op.2 in (
      right.0,
      passes_read ts left.0 op.0 right.0 (expression_of c.in_ok-left.left)
          (expression_of c.in_ok-right-in-Some.right) c.in-Some.operator left.1 op.1 right.1,
      right.2,
    )

pub returns-in-None-clause-value : goal.returns-in-None-clause-value
returns-in-None-clause-value c ts at =
    let left = c.in_ok-left.ensures.value ts at in
    let none = c.in-None.ensures.value left.0 left.2 in
    (left.0, holds_read ts left.0 (expression_of c.in_ok-left.left) left.1 none.0, none.1)
