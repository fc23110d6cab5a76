-- Conditions and the parts that they choose do not depend on hidden globals.
use Rattle.std.proofs.Common.{◌≡◌, ℕ, ◌+◌, List, [], ◌∷◌, Bool, true, cond, Result, Ok, Err, refl, ap, ◌∙◌}
use Rattle.std.specs.FinMap.{empty}
use Rattle.liquid_error.specs.meaning.Refusal.{Refusal, ok_then}
use Rattle.liquid_value.specs.meaning.Tree.{Tree}
use Rattle.liquid_runtime.specs.meaning.Maps.{Names}
use Rattle.liquid_runtime.specs.meaning.View.{View}
use Rattle.liquid_plugins.specs.meaning.Discreet.{hiding}
use Rattle.liquid_plugins.specs.meaning.Evaluation.{evaluate}
use Rattle.liquid_plugins.specs.meaning.Expression.{ExpressionShape}
use Rattle.liquid_plugins.proofs.Hiding.{evaluate_hidden, try_hidden}
use Rattle.liquid_tags.specs.meaning.Conditions.{is_truthy}
use Rattle.liquid_std.specs.declared.conditions.branches.CaseShape.{CaseShape}
use Rattle.liquid_std.specs.declared.conditions.condition.ConditionShape.{ConditionShape}
use Rattle.liquid_std.specs.declared.conditions.condition.Connective.{Connective}
use Rattle.liquid_std.specs.declared.conditions.condition.TestShape.{TestShape}
use Rattle.liquid_std.specs.declared.conditions.condition.TestShape.TheVariants.{Holds, Passes}
use Rattle.liquid_std.specs.declared.conditions.equality.Equality.{Equality}
use Rattle.liquid_std.specs.meaning.conditions.Branches.{equals_one, part_case, part_if, part_unless, part_when}
use Rattle.liquid_std.specs.meaning.conditions.Conditions.{decides, holds, joined_hold, passes, test_holds}
use Rattle.liquid_std.specs.meaning.conditions.Equality.{equal_by}

-- one answer after another, where what follows is the same
then_same : {A B : Type 0} (r : Result A Refusal) (f g : A → Result B Refusal) → ((x : A) → f x ≡ g x) → ok_then r f ≡ ok_then r g
then_same (Ok x) f g e = e x
then_same (Err refusal) f g e = refl

module _ {Reg : Type 0} (equality : Equality) (g : Names) (v : View Reg) where
  test_hidden : (t : TestShape) → test_holds equality (hiding g v) t ≡ test_holds equality (hiding empty v) t
  test_hidden (Holds e) = ap (λ t. Ok (is_truthy t)) (try_hidden g v e)
  test_hidden (Passes l op r) =
      ap (λ x. ok_then (evaluate (hiding g v) l) (λ a. ok_then x (λ b. Ok (passes equality op a b)))) (evaluate_hidden g v r)
      ∙ ap (λ x. ok_then x (λ a. ok_then (evaluate (hiding empty v) r) (λ b. Ok (passes equality op a b)))) (evaluate_hidden g v l)

  joined_hidden : (ts : List (TestShape × Connective)) (last : TestShape)
      → joined_hold equality (hiding g v) ts last ≡ joined_hold equality (hiding empty v) ts last
  joined_hidden [] last = test_hidden last
  joined_hidden (t ∷ ts) last =
      ap (λ x. ok_then (test_holds equality (hiding g v) t.0) (λ it_holds. cond (decides t.1 it_holds) (Ok it_holds) x))
      (joined_hidden ts last)
      ∙ ap (λ x. ok_then x (λ it_holds. cond (decides t.1 it_holds) (Ok it_holds) (joined_hold equality (hiding empty v) ts last)))
      (test_hidden t.0)

  holds_hidden : (c : ConditionShape) → holds equality (hiding g v) c ≡ holds equality (hiding empty v) c
  holds_hidden c = joined_hidden c.joined c.last

  pub part_if_hidden : (part : ℕ) (cs : List ConditionShape)
      → part_if equality (hiding g v) part cs ≡ part_if equality (hiding empty v) part cs
  part_if_hidden part [] = refl
  part_if_hidden part (c ∷ cs) =
      ap (λ x. ok_then (holds equality (hiding g v) c) (λ it_holds. cond it_holds (Ok part) x)) (part_if_hidden (part + 1) cs)
      ∙ ap (λ x. ok_then x (λ it_holds. cond it_holds (Ok part) (part_if equality (hiding empty v) (part + 1) cs))) (holds_hidden c)

  pub part_unless_hidden : (cs : List ConditionShape) → part_unless equality (hiding g v) cs ≡ part_unless equality (hiding empty v) cs
  part_unless_hidden [] = refl
  part_unless_hidden (c ∷ cs) =
      ap (λ x. ok_then (holds equality (hiding g v) c) (λ it_holds. cond it_holds x (Ok 0))) (part_if_hidden 1 cs)
      ∙ ap (λ x. ok_then x (λ it_holds. cond it_holds (part_if equality (hiding empty v) 1 cs) (Ok 0))) (holds_hidden c)

  equals_hidden : (t : Tree) (es : List ExpressionShape) → equals_one equality (hiding g v) t es ≡ equals_one equality (hiding empty v) t es
  equals_hidden t [] = refl
  equals_hidden t (e ∷ es) =
      ap (λ x. ok_then (evaluate (hiding g v) e) (λ u. cond (equal_by equality t u) (Ok true) x)) (equals_hidden t es)
      ∙ ap (λ x. ok_then x (λ u. cond (equal_by equality t u) (Ok true) (equals_one equality (hiding empty v) t es)))
      (evaluate_hidden g v e)

  when_hidden : (t : Tree) (part : ℕ) (whens : List (List ExpressionShape))
      → part_when equality (hiding g v) t part whens ≡ part_when equality (hiding empty v) t part whens
  when_hidden t part [] = refl
  when_hidden t part (es ∷ more) =
      ap (λ x. ok_then (equals_one equality (hiding g v) t es) (λ is_equal. cond is_equal (Ok part) x)) (when_hidden t (part + 1) more)
      ∙ ap (λ x. ok_then x (λ is_equal. cond is_equal (Ok part) (part_when equality (hiding empty v) t (part + 1) more)))
      (equals_hidden t es)

  pub part_case_hidden : (c : CaseShape) → part_case equality (hiding g v) c ≡ part_case equality (hiding empty v) c
  part_case_hidden c =
      ap (λ r. ok_then r (λ t. part_when equality (hiding g v) t 1 c.alternatives)) (evaluate_hidden g v c.value)
      ∙ then_same (evaluate (hiding empty v) c.value) (λ t. part_when equality (hiding g v) t 1 c.alternatives)
      (λ t. part_when equality (hiding empty v) t 1 c.alternatives) (λ t. when_hidden t 1 c.alternatives)
