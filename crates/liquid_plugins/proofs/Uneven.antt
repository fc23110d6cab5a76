-- Lists of indexes of different lengths are unequal.
use Rattle.std.proofs.Common.{◌≡◌, suc, List, [], ◌∷◌, length, false, ◌&&◌, refl, ap, ◌∙◌}
use Rattle.liquid_plugins.specs.meaning.ExpressionOf.{expression_of, expressions_of}
use Rattle.liquid_plugins.specs.meaning.Same.{same_expression, same_indexes}
use Rattle.liquid_plugins.specs.declared.expression.Expression.{Expression}
use Rattle.std.proofs.Math.Bool.{and-false}

pub same_uneven : (ls rs : List Expression) → (length ls ≡ length rs → ⊥) → same_indexes (expressions_of ls) (expressions_of rs) ≡ false
same_uneven [] [] apart = absurd (apart refl)
same_uneven [] (r ∷ rs) apart = refl
same_uneven (l ∷ ls) [] apart = refl
same_uneven (l ∷ ls) (r ∷ rs) apart =
    ap (λ b. same_expression (expression_of l) (expression_of r) && b) (same_uneven ls rs (λ e. apart (ap suc e)))
    ∙ and-false (same_expression (expression_of l) (expression_of r))
