use Rattle.std.proofs.Common.{[], ◌++◌, codes, ap, sym, ◌∙◌, append_assoc, rules}
use Rattle.std.proofs.Output.{has_written_append}
use Rattle.liquid_plugins.specs.meaning.Expression.{expression_text, indexes_text}
use Rattle.liquid_plugins.specs.meaning.ExpressionOf.{expression_of, expressions_of}
use Rattle.liquid_plugins.proofs.PathSteps.{expressions_of-drop}
use Rattle.liquid_plugins.proofs.text.+text.Goals as goal

pub write_indexes-loop-index-init : goal.write_indexes-loop-index-init
write_indexes-loop-index-init g t c =
    ([], ap (λ es. indexes_text (expressions_of es)) (sym c.deref-index-items.ensures.value), λ p. search rules)

pub write_indexes-loop-index-preserved : goal.write_indexes-loop-index-preserved
write_indexes-loop-index-preserved g t c =
    let l = c.loop-index in
    let e = c.index-item.result in (
      l.invariant.0 ++ (codes "[" ++ (expression_text (expression_of e) ++ codes "]")),
      l.invariant.1 ∙ ap (λ is. l.invariant.0 ++ indexes_text is) (expressions_of-drop _ l.index-index e c.loop-index-test.true
          c.index-item.is) ∙ sym (append_assoc l.invariant.0 (codes "[" ++ (expression_text (expression_of e) ++ codes "]")) _),
      λ p. has_written_append _ _ _ _ _ _ (l.invariant.2 p) (search rules),
    )
