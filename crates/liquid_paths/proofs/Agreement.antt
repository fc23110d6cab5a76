-- The call that can fail agrees with the one that can't.
use Rattle.std.proofs.Common.{◌≡◌, [], ◌∷◌, ◌++◌, Option, Some, None, Result, Ok, Err, refl, ap, ◌∙◌}
use Rattle.std.specs.Prelude.{ok_or, option_and_then}
use Rattle.std.specs.Result.{result_ok}
use Rattle.liquid_error.specs.meaning.Refusal.{Refusal, ok_then}
use Rattle.liquid_value.specs.meaning.Tree.{Tree}
use Rattle.liquid_paths.specs.meaning.Step.{step}
use Rattle.liquid_paths.specs.meaning.Walk.{Path, walk, find_after, unknown_index}
use Rattle.liquid_paths.specs.laws.Laws.{FindAgrees}

-- a result and what follows from it
pub ok_then-agrees : {A B : Type 0} (r : Result A Refusal) (f : A → Result B Refusal) (o : Option A) (h : A → Option B) → result_ok r ≡ o
    → ((x : A) → result_ok (f x) ≡ h x) → result_ok (ok_then r f) ≡ option_and_then h o
ok_then-agrees (Ok x) f o h e k = k x ∙ ap (option_and_then h) e
ok_then-agrees (Err refusal) f o h e k = ap (option_and_then h) e

pub ok_or-agrees : {A : Type 0} (o : Option A) (refusal : Refusal) → result_ok (ok_or o refusal) ≡ o
ok_or-agrees (Some x) refusal = refl
ok_or-agrees None refusal = refl

pub find_after-agrees : (front : Path) (t : Tree) (path : Path) → result_ok (find_after front t path) ≡ walk t path
find_after-agrees front t [] = refl
find_after-agrees front t (i ∷ path) =
    ok_then-agrees (ok_or (step t i) (unknown_index front t i)) (λ next. find_after (front ++ i ∷ []) next path) (step t i)
    (λ next. walk next path)
    (ok_or-agrees (step t i) (unknown_index front t i)) (λ next. find_after-agrees (front ++ i ∷ []) next path)

pub find_agrees : FindAgrees
find_agrees t path = find_after-agrees [] t path
