-- Strict equality of expressions is an equivalence.
use Rattle.std.proofs.Common.{◌≡◌, true, ◌&&◌, refl, ap, ◌∙◌}
use Rattle.std.specs.Cmp.{IsEquivalence}
use Rattle.liquid_scalar.specs.meaning.ScalarCompare.{same_scalar}
use Rattle.liquid_scalar.specs.steps.ScalarLawProofs.{same_scalar_equiv}
use Rattle.liquid_value.specs.steps.Conjunction.{both_true, first_true, second_true}
use Rattle.liquid_value.specs.steps.StrictLawProofs.{same_value_equiv}
use Rattle.liquid_plugins.specs.meaning.Expression.{ExpressionShape, literal, variable, Indexes, no_indexes, index}
use Rattle.liquid_plugins.specs.meaning.Same.{same_expression, same_indexes}

mutual
  same_refl : (e : ExpressionShape) → same_expression e e ≡ true
  same_refl (literal t) = same_value_equiv.refl t
  same_refl (variable n is) = both_true (same_scalar_equiv.refl n) (indexes_refl is)

  indexes_refl : (is : Indexes) → same_indexes is is ≡ true
  indexes_refl no_indexes = refl
  indexes_refl (index e es) = both_true (same_refl e) (indexes_refl es)

mutual
  same_symm : (l r : ExpressionShape) → same_expression l r ≡ same_expression r l
  same_symm (literal t) (literal u) = same_value_equiv.symm t u
  same_symm (literal t) (variable m js) = refl
  same_symm (variable n is) (literal u) = refl
  same_symm (variable n is) (variable m js) =
      ap (λ b. b && same_indexes is js) (same_scalar_equiv.symm n m) ∙ ap (λ b. same_scalar m n && b) (indexes_symm is js)

  indexes_symm : (l r : Indexes) → same_indexes l r ≡ same_indexes r l
  indexes_symm no_indexes no_indexes = refl
  indexes_symm no_indexes (index f fs) = refl
  indexes_symm (index e es) no_indexes = refl
  indexes_symm (index e es) (index f fs) =
      ap (λ b. b && same_indexes es fs) (same_symm e f) ∙ ap (λ b. same_expression f e && b) (indexes_symm es fs)

mutual
  same_congr : (l r other : ExpressionShape) → same_expression l r ≡ true → same_expression l other ≡ same_expression r other
  same_congr (literal t) (literal u) (literal w) same = same_value_equiv.congr t u w same
  same_congr (literal t) (literal u) (variable m js) same = refl
  same_congr (literal t) (variable m js) other same = cc
  same_congr (variable n is) (literal u) other same = cc
  same_congr (variable n is) (variable m js) (literal w) same = refl
  same_congr (variable n is) (variable m js) (variable k ks) same =
      ap (λ b. b && same_indexes is ks) (same_scalar_equiv.congr n m k (first_true _ _ same))
      ∙ ap (λ b. same_scalar m k && b) (indexes_congr is js ks (second_true _ _ same))

  indexes_congr : (l r other : Indexes) → same_indexes l r ≡ true → same_indexes l other ≡ same_indexes r other
  indexes_congr no_indexes no_indexes other same = refl
  indexes_congr no_indexes (index f fs) other same = cc
  indexes_congr (index e es) no_indexes other same = cc
  indexes_congr (index e es) (index f fs) no_indexes same = refl
  indexes_congr (index e es) (index f fs) (index g gs) same =
      ap (λ b. b && same_indexes es gs) (same_congr e f g (first_true _ _ same))
      ∙ ap (λ b. same_expression f g && b) (indexes_congr es fs gs (second_true _ _ same))

pub same_expression_equiv : IsEquivalence same_expression
same_expression_equiv = record { refl = same_refl; symm = same_symm; congr = same_congr }
