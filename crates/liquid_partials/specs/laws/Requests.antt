-- Lists of requests to stores, and what stores of one source and one language return for them.
use Rattle.std.specs.Prelude.{◌≡◌, ◌≤◌, ◌+◌, ℕ, Bool, not, is_ok, List, [], ◌∷◌, Option, Some, Result, Ok, Err, IfOk, IfSome, option_map, ⊤}
use Rattle.std.specs.FinMap.{len}
use Rattle.std.specs.Result.{result_ok}
use Rattle.std.specs.declared.alloc.AllocError.{AllocError}
use Rattle.liquid_error.specs.declared.error.Error.{Error}
use Rattle.liquid_error.specs.meaning.Refusal.{Refusal}
use Rattle.liquid_error.specs.meaning.Told.{told, Gives}
use Rattle.liquid_runtime.specs.meaning.Maps.{NameMap}
use Rattle.liquid_parser.specs.meaning.Lang.{Lang}
use Rattle.liquid_plugins.specs.meaning.Nodes.{Nodes}
use Rattle.liquid_template.specs.meaning.Partials.{Found, partial_in, tree_in}
use Rattle.liquid_partials.specs.meaning.Compiled.{Compiled, once}
use Rattle.liquid_partials.specs.meaning.Keeping.{is_answer, is_read, kept_after}
use Rattle.liquid_partials.specs.meaning.Sources.{Texts}

-- a request for a name, with its result: from `get`, or from `try_get`
pub data Request (A : Type 0) : Type 0 where
  got : List ℕ → Result A Error → Request A
  tried : List ℕ → Result (Option A) AllocError → Request A

-- the two are the same, if there are both
abbrev pub SameIfBoth : {A : Type 0} → Option A → Option A → Type 0
SameIfBoth one other = IfSome one (λ a. IfSome other (λ b. a ≡ b))

module _ {A : Type 0} where
  -- the result is the one of a store that finds this, or out of memory
  abbrev pub Answers : NameMap (Result A Refusal) → Request A → Type 0
  Answers finds (got name result) = Gives (λ tree. tree) result (partial_in finds name)
  Answers finds (tried name result) = IfOk result (λ found. found ≡ tree_in finds name)

  -- a store served these requests, one after another, and none of them changed what it finds
  pub data Serves {S : Type 0} (finds : S → NameMap (Result A Refusal)) : S → List (Request A) → Type 0 where
    served : {s : S} → Serves finds s []
    serves : {s t : S} {request : Request A} {more : List (Request A)} → Answers (finds s) request → finds t ≡ finds s → Serves finds t more
        → Serves finds s (request ∷ more)

  -- the tree or the refusal that `get` returned; none if it was out of memory
  abbrev pub answer_told : Result A Error → Option (Result A Refusal)
  answer_told (Ok tree) = Some (Ok tree)
  answer_told (Err error) = option_map (λ refusal. Err refusal) (told error)

  -- for the same names the same results, except for those that are out of memory
  abbrev pub Alike : List (Request A) → List (Request A) → Type 0
  Alike (got name result ∷ more) (got other answer ∷ others) =
      (name ≡ other → SameIfBoth (answer_told result) (answer_told answer)) × Alike more others
  Alike (tried name result ∷ more) (tried other answer ∷ others) =
      (name ≡ other → SameIfBoth (result_ok result) (result_ok answer)) × Alike more others
  Alike (request ∷ more) (other ∷ others) = Alike more others
  Alike [] others = ⊤
  Alike more [] = ⊤

  -- the name of a request, and whether it had a result
  abbrev pub name_asked : Request A → List ℕ
  name_asked (got name result) = name
  name_asked (tried name result) = name

  abbrev pub is_answered : Request A → Bool
  is_answered (got name result) = is_answer result
  is_answered (tried name result) = is_ok result

  -- the number of requests that were out of memory
  abbrev pub unanswered : List (Request A) → ℕ
  unanswered [] = 0
  unanswered (request ∷ more) = once (not (is_answered request)) + unanswered more

  -- a store that keeps its results served these requests: what it had kept and how many texts it had parsed before and
  -- after them
  pub data Keeps (finds last : NameMap (Result A Refusal)) (count : ℕ) : NameMap (Result A Refusal) → ℕ → List (Request A) → Type 0 where
    kept_none : {kept : NameMap (Result A Refusal)} {n : ℕ} → last ≡ kept → count ≡ n → Keeps finds last count kept n []
    kept_more : {kept next : NameMap (Result A Refusal)} {n m : ℕ} {request : Request A} {more : List (Request A)}
        → next ≡ kept_after (is_answered request) finds (name_asked request) kept
        → m ≡ n + once (is_read finds kept (name_asked request)) → Keeps finds last count next m more
        → Keeps finds last count kept n (request ∷ more)

-- over any list of requests a store that keeps its results parses at most as many texts as it keeps new names and as
-- requests are out of memory
abbrev pub FewReadings : Type 0 → Type 0
FewReadings A =
    (finds kept last : NameMap (Result A Refusal)) (n count : ℕ) (requests : List (Request A)) → Keeps finds last count kept n requests
    → count + len kept ≤ n + len last + unanswered requests

-- any list of requests has the same results from two stores of one source in one language
abbrev pub StoresAgree : {F T P B S R : Type 0} → Lang F T P B → (S → Found F T B) → (R → Found F T B) → Type 0
StoresAgree {F} {T} {P} {B} {S} {R} l finds found =
    (texts : Texts) (store : S) (other : R) → Compiled l texts (finds store) → Compiled l texts (found other)
    → (requests others : List (Request (Nodes F T B))) → Serves finds store requests → Serves found other others → Alike requests others
