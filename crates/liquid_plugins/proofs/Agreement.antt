-- The calls that can fail agree with those that can't.
use Rattle.std.proofs.Common.{◌≡◌, ◌∷◌, [], Bool, true, false, Option, Some, None, Result, Ok, Err, refl, ap, ◌∙◌, option_map}
use Rattle.std.specs.Prelude.{cond, ok_or, option_and_then, unwrap_or}
use Rattle.std.specs.Result.{result_ok}
use Rattle.liquid_error.specs.meaning.Refusal.{Refusal}
use Rattle.liquid_scalar.specs.meaning.Scalar.{Scal}
use Rattle.liquid_value.specs.meaning.Tree.{Tree, nil}
use Rattle.liquid_value.specs.meaning.Parts.{as_scalar}
use Rattle.liquid_error.specs.meaning.Refusal.{ok_then}
use Rattle.liquid_runtime.specs.declared.leniency.Leniency.{Leniency}
use Rattle.liquid_runtime.specs.declared.leniency.Leniency.TheVariants as leniency
use Rattle.liquid_runtime.specs.meaning.Leniency.{is_lenient, includes_indexes}
use Rattle.liquid_runtime.specs.meaning.View.{View}
use Rattle.liquid_runtime.specs.meaning.Lookup.{try_path, found}
use Rattle.liquid_paths.specs.meaning.Walk.{Path}
use Rattle.liquid_paths.proofs.Agreement.{ok_then-agrees, ok_or-agrees}
use Rattle.liquid_runtime.proofs.Agreement.{get_agrees, lenient_get_agrees}
use Rattle.liquid_plugins.specs.meaning.Expression.{ExpressionShape, literal, variable, Indexes, no_indexes, index}
use Rattle.liquid_plugins.specs.meaning.Evaluation.{
  at_path,
  evaluate,
  path_of,
  try_evaluate,
  try_path_of,
  expected_scalar,
  named_path,
  try_named_path,
}

ok_then-map : (s : Scal) (r : Result Path Refusal) (o : Option Path) → result_ok r ≡ o
    → result_ok (ok_then r (λ path. Ok (s ∷ path))) ≡ option_map (λ path. s ∷ path) o
ok_then-map s (Ok path) o e = ap (option_map (λ path. s ∷ path)) e
ok_then-map s (Err refusal) o e = ap (option_map (λ path. s ∷ path)) e

came_to : (r : Result Tree Refusal) (t : Tree) → result_ok r ≡ Some t → r ≡ Ok t
came_to (Ok u) t e = cc
came_to (Err refusal) t e = cc

same_value : {A : Type 0} (x y : A) → Some x ≡ Some y → x ≡ y
same_value x y e = cc

-- the result if each step has one
ok_then-gives : {A B : Type 0} (r : Result A Refusal) (f : A → Result B Refusal) (o : Option A) (g : A → Option B) (u : B)
    → ((x : A) → o ≡ Some x → r ≡ Ok x) → ((x : A) (y : B) → g x ≡ Some y → f x ≡ Ok y) → option_and_then g o ≡ Some u → ok_then r f ≡ Ok u
ok_then-gives r f None g u first more h = cc
ok_then-gives r f (Some x) g u first more h = ap (λ q. ok_then q f) (first x refl) ∙ more x u h

ok_then-map-gives : (s : Scal) (r : Result Path Refusal) (o : Option Path) (path : Path) → ((rest : Path) → o ≡ Some rest → r ≡ Ok rest)
    → option_map (λ rest. s ∷ rest) o ≡ Some path → ok_then r (λ rest. Ok (s ∷ rest)) ≡ Ok path
ok_then-map-gives s r None path first h = cc
ok_then-map-gives s r (Some rest) path first h =
    ap (λ q. ok_then q (λ rest. Ok (s ∷ rest))) (first rest refl) ∙ ap (λ w. Ok w) (same_value (s ∷ rest) path h)

-- a strict view is not lenient in indexes
no_indexes_in : (l : Leniency) → is_lenient l ≡ false → includes_indexes l ≡ false
no_indexes_in leniency.Strict strict = refl
no_indexes_in leniency.Paths strict = absurd (cc)
no_indexes_in leniency.Indexes strict = absurd (cc)

-- a view that is lenient in indexes is lenient
lenient_with : (l : Leniency) → includes_indexes l ≡ true → is_lenient l ≡ true
lenient_with leniency.Strict lenient = absurd (cc)
lenient_with leniency.Paths lenient = refl
lenient_with leniency.Indexes lenient = refl

skipped_index : (o : Option Tree) (f : Tree → Result Path Refusal) (g : Tree → Option Path) → ((t : Tree) → result_ok (f t) ≡ g t)
    → g nil ≡ None → result_ok (f (unwrap_or o nil)) ≡ option_and_then g o
skipped_index None f g agrees none = agrees nil ∙ none
skipped_index (Some t) f g agrees none = agrees t

module _ {Reg : Type 0} where
  at_path_strict : (v : View Reg) (name : Scal) (r : Result Path Refusal) → includes_indexes v.lenient ≡ false
      → at_path v (ok_then r (λ path. Ok (name ∷ path))) ≡ ok_then r (λ path. found v (name ∷ path))
  at_path_strict v name (Ok path) strict = refl
  at_path_strict v name (Err refusal) strict = ap (λ b. cond b (Ok nil) (Err refusal)) strict

  at_path_gives : (v : View Reg) (name : Scal) (r : Result Path Refusal) (t : Tree) → ok_then r (λ path. found v (name ∷ path)) ≡ Ok t
      → at_path v (ok_then r (λ path. Ok (name ∷ path))) ≡ Ok t
  at_path_gives v name (Ok path) t h = h
  at_path_gives v name (Err refusal) t h = cc

  at_path_lenient : (v : View Reg) (name : Scal) (r : Result Path Refusal) → includes_indexes v.lenient ≡ true
      → at_path v (ok_then r (λ path. Ok (name ∷ path)))
      ≡ Ok (unwrap_or (option_and_then (try_path v) (option_map (λ path. name ∷ path) (result_ok r))) nil)
  at_path_lenient v name (Ok path) lenient = lenient_get_agrees v (name ∷ path) (lenient_with v.lenient lenient)
  at_path_lenient v name (Err refusal) lenient = ap (λ b. cond b (Ok nil) (Err refusal)) lenient

  and_then-map : (v : View Reg) (name : Scal) (o : Option Path)
      → option_and_then (λ path. try_path v (name ∷ path)) o ≡ option_and_then (try_path v) (option_map (λ path. name ∷ path) o)
  and_then-map v name None = refl
  and_then-map v name (Some path) = refl

  mutual
    pub evaluate_agrees : (v : View Reg) (e : ExpressionShape) → is_lenient v.lenient ≡ false → result_ok (evaluate v e) ≡ try_evaluate v e
    evaluate_agrees v (literal t) strict = refl
    evaluate_agrees v (variable name is) strict =
        ap result_ok (at_path_strict v name (path_of v is) (no_indexes_in v.lenient strict))
        ∙ ok_then-agrees (path_of v is) (λ path. found v (name ∷ path)) (try_path_of v is) (λ path. try_path v (name ∷ path))
        (path_agrees v is strict) (λ path. get_agrees v (name ∷ path) strict) ∙ and_then-map v name (try_path_of v is)

    path_agrees : (v : View Reg) (is : Indexes) → is_lenient v.lenient ≡ false → result_ok (path_of v is) ≡ try_path_of v is
    path_agrees v no_indexes strict = refl
    path_agrees v (index e es) strict =
        ok_then-agrees (evaluate v e) (λ t. ok_then (ok_or (as_scalar t) (expected_scalar t))
        (λ scalar. ok_then (path_of v es) (λ path. Ok (scalar ∷ path))))
        (try_evaluate v e) (λ t. option_and_then (λ scalar. option_map (λ path. scalar ∷ path) (try_path_of v es)) (as_scalar t))
        (evaluate_agrees v e strict)
        (λ t. ok_then-agrees (ok_or (as_scalar t) (expected_scalar t)) (λ scalar. ok_then (path_of v es) (λ path. Ok (scalar ∷ path)))
        (as_scalar t) (λ scalar. option_map (λ path. scalar ∷ path) (try_path_of v es))
        (ok_or-agrees (as_scalar t) (expected_scalar t))
        (λ scalar. ok_then-map scalar (path_of v es) (try_path_of v es) (path_agrees v es strict)))

  pub paths_agree : (v : View Reg) (name : Scal) (is : Indexes) → is_lenient v.lenient ≡ false
      → result_ok (named_path v name is) ≡ try_named_path v name is
  paths_agree v name is strict = ok_then-map name (path_of v is) (try_path_of v is) (path_agrees v is strict)

  -- a path that has a value gives it in any view
  found_where : (v : View Reg) (path : Path) (t : Tree) (lenient : Bool) → is_lenient v.lenient ≡ lenient → try_path v path ≡ Some t
      → found v path ≡ Ok t
  found_where v path t true e h = lenient_get_agrees v path e ∙ ap (λ o. Ok (unwrap_or o nil)) h
  found_where v path t false e h = came_to (found v path) t (get_agrees v path e ∙ h)

  found_gives : (v : View Reg) (path : Path) (t : Tree) → try_path v path ≡ Some t → found v path ≡ Ok t
  found_gives v path t h = found_where v path t (is_lenient v.lenient) refl h

  mutual
    pub evaluate_gives : (v : View Reg) (e : ExpressionShape) (t : Tree) → try_evaluate v e ≡ Some t → evaluate v e ≡ Ok t
    evaluate_gives v (literal u) t h = ap (λ w. Ok w) (same_value u t h)
    evaluate_gives v (variable name is) t h =
        at_path_gives v name (path_of v is) t
        (ok_then-gives (path_of v is) (λ path. found v (name ∷ path)) (try_path_of v is) (λ path. try_path v (name ∷ path)) t
        (λ path k. path_gives v is path k) (λ path u k. found_gives v (name ∷ path) u k) (and_then-map v name (try_path_of v is) ∙ h))

    path_gives : (v : View Reg) (is : Indexes) (path : Path) → try_path_of v is ≡ Some path → path_of v is ≡ Ok path
    path_gives v no_indexes path h = ap (λ w. Ok w) (same_value [] path h)
    path_gives v (index e es) path h =
        ok_then-gives (evaluate v e) (λ t. ok_then (ok_or (as_scalar t) (expected_scalar t))
        (λ scalar. ok_then (path_of v es) (λ path. Ok (scalar ∷ path))))
        (try_evaluate v e) (λ t. option_and_then (λ scalar. option_map (λ path. scalar ∷ path) (try_path_of v es)) (as_scalar t)) path
        (λ t k. evaluate_gives v e t k)
        (λ t q k. ok_then-gives (ok_or (as_scalar t) (expected_scalar t)) (λ scalar. ok_then (path_of v es) (λ path. Ok (scalar ∷ path)))
        (as_scalar t) (λ scalar. option_map (λ path. scalar ∷ path) (try_path_of v es)) q
        (λ scalar i. ap (λ o. ok_or o (expected_scalar t)) i)
        (λ scalar p i. ok_then-map-gives scalar (path_of v es) (try_path_of v es) p (λ rest j. path_gives v es rest j) i) k)
        h

  pub paths_give : (v : View Reg) (name : Scal) (is : Indexes) (path : Path) → try_named_path v name is ≡ Some path
      → named_path v name is ≡ Ok path
  paths_give v name is path h = ok_then-map-gives name (path_of v is) (try_path_of v is) path (λ rest j. path_gives v is rest j) h

  mutual
    pub lenient_evaluate_agrees : (v : View Reg) (e : ExpressionShape) → includes_indexes v.lenient ≡ true
        → evaluate v e ≡ Ok (unwrap_or (try_evaluate v e) nil)
    lenient_evaluate_agrees v (literal t) lenient = refl
    lenient_evaluate_agrees v (variable name is) lenient =
        at_path_lenient v name (path_of v is) lenient
        ∙ ap (λ o. Ok (unwrap_or (option_and_then (try_path v) (option_map (λ path. name ∷ path) o)) nil))
        (lenient_path_agrees v is lenient)

    lenient_path_agrees : (v : View Reg) (is : Indexes) → includes_indexes v.lenient ≡ true → result_ok (path_of v is) ≡ try_path_of v is
    lenient_path_agrees v no_indexes lenient = refl
    lenient_path_agrees v (index e es) lenient =
        ap (λ r. result_ok (ok_then r (λ t. ok_then (ok_or (as_scalar t) (expected_scalar t))
        (λ scalar. ok_then (path_of v es) (λ path. Ok (scalar ∷ path)))))) (lenient_evaluate_agrees v e lenient)
        ∙ skipped_index (try_evaluate v e) (λ t. ok_then (ok_or (as_scalar t) (expected_scalar t))
        (λ scalar. ok_then (path_of v es) (λ path. Ok (scalar ∷ path))))
        (λ t. option_and_then (λ scalar. option_map (λ path. scalar ∷ path) (try_path_of v es)) (as_scalar t))
        (λ t. ok_then-agrees (ok_or (as_scalar t) (expected_scalar t)) (λ scalar. ok_then (path_of v es) (λ path. Ok (scalar ∷ path)))
        (as_scalar t) (λ scalar. option_map (λ path. scalar ∷ path) (try_path_of v es))
        (ok_or-agrees (as_scalar t) (expected_scalar t))
        (λ scalar. ok_then-map scalar (path_of v es) (try_path_of v es) (lenient_path_agrees v es lenient)))
        refl
