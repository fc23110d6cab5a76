-- `get` agrees with `try_get`.
use Rattle.std.proofs.Common.{◌≡◌, ℕ, List, [], ◌∷◌, Bool, true, false, Result, Ok, Err, inl, refl, ap, ◌∙◌}
use Rattle.std.specs.Prelude.{codes, ok_or, unwrap_or}
use Rattle.std.specs.Result.{result_ok}
use Rattle.liquid_error.specs.meaning.Refusal.{Refusal}
use Rattle.liquid_scalar.specs.meaning.Scalar.{render_scalar}
use Rattle.liquid_value.specs.meaning.Tree.{Tree, nil}
use Rattle.liquid_paths.specs.meaning.Walk.{Path, walk, find_after}
use Rattle.liquid_paths.proofs.Agreement.{ok_then-agrees, ok_or-agrees, find_after-agrees}
use Rattle.liquid_value.specs.declared.cow.ValueCow.{ValueCow}
use Rattle.liquid_value.specs.declared.cow.ValueCow.TheVariants.{Owned, Borrowed}
use Rattle.liquid_runtime.specs.meaning.Made.{InPlaceOrMade}
use Rattle.liquid_runtime.specs.meaning.InPlaceOrNil.{InPlaceOrNil}
use Rattle.liquid_runtime.specs.meaning.Leniency.{is_lenient}
use Rattle.liquid_runtime.specs.meaning.View.{View}
use Rattle.liquid_runtime.specs.meaning.NamesSeen.{lookup, comes_from_seal}
use Rattle.liquid_runtime.specs.meaning.Lookup.{try_path, found, strictly_found, or_nil, sealed_answer, unknown_variable}

sealed_answer-agrees : (own : Bool) (name : List ℕ) (r : Result Tree Refusal) → result_ok (sealed_answer own name r) ≡ result_ok r
sealed_answer-agrees own name (Ok t) = refl
sealed_answer-agrees own name (Err refusal) = refl

strict_answer : (r : Result Tree Refusal) → or_nil false r ≡ r
strict_answer (Ok t) = refl
strict_answer (Err refusal) = refl

lenient_answer : (r : Result Tree Refusal) → or_nil true r ≡ Ok (unwrap_or (result_ok r) nil)
lenient_answer (Ok t) = refl
lenient_answer (Err refusal) = refl

pub in_place_or_nil : (value : ValueCow) → InPlaceOrMade value → InPlaceOrNil value
in_place_or_nil (Borrowed value) is = tt
in_place_or_nil (Owned value) is = inl is

module _ {Reg : Type 0} where
  value_agrees : (v : View Reg) (path : Path) → result_ok (strictly_found v path) ≡ try_path v path
  value_agrees v [] = refl
  value_agrees v (name ∷ path) =
      ok_then-agrees (ok_or (lookup v (render_scalar name)) (unknown_variable (render_scalar name)))
      (λ t. sealed_answer (comes_from_seal v (render_scalar name)) (render_scalar name) (find_after (name ∷ []) t path))
      (lookup v (render_scalar name)) (λ t. walk t path)
      (ok_or-agrees (lookup v (render_scalar name)) (unknown_variable (render_scalar name)))
      (λ t. sealed_answer-agrees (comes_from_seal v (render_scalar name)) (render_scalar name) (find_after (name ∷ []) t path)
      ∙ find_after-agrees (name ∷ []) t path)

  -- in a strict view a path gives its value or its refusal
  pub found_strict : (v : View Reg) (path : Path) → is_lenient v.lenient ≡ false → found v path ≡ strictly_found v path
  found_strict v path e = ap (λ lenient. or_nil lenient (strictly_found v path)) e ∙ strict_answer (strictly_found v path)

  pub get_agrees : (v : View Reg) (path : Path) → is_lenient v.lenient ≡ false → result_ok (found v path) ≡ try_path v path
  get_agrees v path e = ap result_ok (found_strict v path e) ∙ value_agrees v path

  pub lenient_get_agrees : (v : View Reg) (path : Path) → is_lenient v.lenient ≡ true → found v path ≡ Ok (unwrap_or (try_path v path) nil)
  lenient_get_agrees v path e =
      ap (λ lenient. or_nil lenient (strictly_found v path)) e ∙ lenient_answer (strictly_found v path)
      ∙ ap (λ o. Ok (unwrap_or o nil)) (value_agrees v path)

  -- the empty path has no value
  pub empty_refused : (v : View Reg) → is_lenient v.lenient ≡ false → found v [] ≡ Err (unknown_variable (codes "nil"))
  empty_refused v e = found_strict v [] e

pub ruleset get_answers = (found_strict, empty_refused, lenient_get_agrees, in_place_or_nil)
