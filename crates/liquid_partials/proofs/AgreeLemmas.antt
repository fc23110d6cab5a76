-- Stores that find the same return the same.
use Rattle.std.proofs.Common.{◌≡◌, List, [], ◌∷◌, Option, Some, None, Result, Ok, Err, refl, sym, ap, ◌∙◌, subst, arith}
use Rattle.std.specs.Prelude.{IfOk, IfSome, option_map}
use Rattle.std.specs.Result.{result_ok}
use Rattle.std.specs.FinMap.{len}
use Rattle.std.specs.declared.alloc.AllocError.{AllocError}
use Rattle.liquid_error.specs.declared.error.Error.{Error}
use Rattle.liquid_error.specs.meaning.Refusal.{Refusal}
use Rattle.liquid_error.specs.meaning.Told.{told, Gives}
use Rattle.liquid_runtime.specs.meaning.Maps.{NameMap}
use Rattle.liquid_parser.specs.meaning.Lang.{Lang}
use Rattle.liquid_template.specs.meaning.Partials.{Found, partial_in, tree_in}
use Rattle.liquid_partials.specs.laws.Requests.{
  Request,
  got,
  tried,
  is_answered,
  name_asked,
  Serves,
  serves,
  FewReadings,
  kept_none,
  kept_more,
  SameIfBoth,
  answer_told,
  Alike,
  StoresAgree,
}
use Rattle.liquid_partials.proofs.LazyLemmas.{reads_few}
use Rattle.liquid_partials.proofs.StoreLemmas.{one_store}

both_are : {B : Type 0} (b : B) (o p : Option B) → IfSome o (λ w. b ≡ w) → IfSome p (λ w. b ≡ w) → SameIfBoth o p
both_are b None p h k = tt
both_are b (Some x) None h k = tt
both_are b (Some x) (Some y) h k = sym h ∙ k

module _ {A : Type 0} where
  told_as : (a : Result A Refusal) (o : Option Refusal) → IfSome o (λ r. a ≡ Err r)
      → IfSome (option_map (λ r. let w : Result A Refusal = Err r in w) o) (λ w. a ≡ w)
  told_as a None h = h
  told_as a (Some r) h = h

  answer_is : (a : Result A Refusal) (one : Result A Error) → Gives (λ tree. tree) one a → IfSome (answer_told one) (λ w. a ≡ w)
  answer_is a (Ok x) h = h
  answer_is a (Err e) h = told_as a (told e) h

  tried_is : (a : Option A) (one : Result (Option A) AllocError) → IfOk one (λ found. found ≡ a) → IfSome (result_ok one) (λ w. a ≡ w)
  tried_is a (Ok x) h = sym h
  tried_is a (Err e) h = tt

  same_got : (a : Result A Refusal) (one other : Result A Error) → Gives (λ tree. tree) one a → Gives (λ tree. tree) other a
      → SameIfBoth (answer_told one) (answer_told other)
  same_got a one other h k = both_are a (answer_told one) (answer_told other) (answer_is a one h) (answer_is a other k)

  same_tried : (a : Option A) (one other : Result (Option A) AllocError) → IfOk one (λ found. found ≡ a) → IfOk other (λ found. found ≡ a)
      → SameIfBoth (result_ok one) (result_ok other)
  same_tried a one other h k = both_are a (result_ok one) (result_ok other) (tried_is a one h) (tried_is a other k)

  agree : {S R : Type 0} (finds : S → NameMap (Result A Refusal)) (found : R → NameMap (Result A Refusal)) (m : NameMap (Result A Refusal))
      {s : S} {t : R} (requests others : List (Request A))
      → Serves finds s requests → Serves found t others → finds s ≡ m → found t ≡ m → Alike requests others
  agree finds found m [] others h k e d = tt
  agree finds found m (got name a ∷ requests) [] h k e d = tt
  agree finds found m (tried name a ∷ requests) [] h k e d = tt
  agree finds found m (got name a ∷ requests) (tried other b ∷ others) (serves x i h) (serves y j k) e d =
      agree finds found m requests others h k (i ∙ e) (j ∙ d)
  agree finds found m (tried name a ∷ requests) (got other b ∷ others) (serves x i h) (serves y j k) e d =
      agree finds found m requests others h k (i ∙ e) (j ∙ d)
  agree finds found m (got name a ∷ requests) (got other b ∷ others) (serves x i h) (serves y j k) e d = (
    λ same. same_got (partial_in m name) a b (subst (λ w. Gives (λ tree. tree) a (partial_in w name)) e x)
        (subst (λ n. Gives (λ tree. tree) b (partial_in m n)) (sym same) (subst (λ w. Gives (λ tree. tree) b (partial_in w other)) d y)),
    agree finds found m requests others h k (i ∙ e) (j ∙ d),
  )
  agree finds found m (tried name a ∷ requests) (tried other b ∷ others) (serves x i h) (serves y j k) e d = (
    λ same. same_tried (tree_in m name) a b (subst (λ w. IfOk a (λ f. f ≡ tree_in w name)) e x)
        (subst (λ n. IfOk b (λ f. f ≡ tree_in m n)) (sym same) (subst (λ w. IfOk b (λ f. f ≡ tree_in w other)) d y)),
    agree finds found m requests others h k (i ∙ e) (j ∙ d),
  )

pub stores_agree : {F T P B S R : Type 0} (l : Lang F T P B) (finds : S → Found F T B) (found : R → Found F T B) → StoresAgree l finds found
stores_agree l finds found texts store other c d requests others h k =
    agree finds found (finds store) requests others h k refl (one_store l texts (finds store) (found other) c d)

pub few_readings : (A : Type 0) → FewReadings A
few_readings A finds kept last n count [] (kept_none e c) = let l = ap len e in omega (arith, l, c)
few_readings A finds kept last n count (request ∷ more) (kept_more {next = next} {m = m} e c k) =
    let rest = few_readings A finds next last m count more k in
    let step = reads_few (is_answered request) finds kept (name_asked request) in
    let l = ap len e in
    omega (arith, rest, step, l, c)
