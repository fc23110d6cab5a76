-- A path from a value, index by index, and the refusal of a path that leads nowhere.
use Rattle.std.specs.Prelude.{ℕ, zero, suc, List, [], ◌∷◌, ◌++◌, codes, Option, Some, Result, Ok, ok_or, option_and_then, decimal}
use Rattle.std.specs.List.{join_by}
use Rattle.liquid_error.specs.meaning.Refusal.{Refusal, plain, with_context, ok_then}
use Rattle.liquid_scalar.specs.meaning.Scalar.{Scal, render_scalar}
use Rattle.liquid_value.specs.meaning.Members.{item_count}
use Rattle.liquid_value.specs.meaning.Tree.{Tree, nil, state, scalar, array, object}
use Rattle.liquid_value.specs.meaning.Names.{names}
use Rattle.liquid_paths.specs.meaning.Step.{step}

-- a path is a list of indexes
abbrev pub Path : Type 0
Path = List Scal

-- the value at the end of a path: each step starts where the one before it led; the empty path leads to the value
-- itself
abbrev pub walk : Tree → Path → Option Tree
walk t [] = Some t
walk t (index ∷ path) = option_and_then (λ next. walk next path) (step t index)

-- the text of a path: its indexes, joined by `.`
abbrev pub path_text : Path → List ℕ
path_text path = join_by render_scalar (codes ".") path

-- texts in a list: joined by a comma and a space
abbrev pub listed : List (List ℕ) → List ℕ
listed texts = join_by (λ text. text) (codes ", ") texts

-- the indexes that an array of this many items has: from 0 to its last one, if it is not empty, and `first` and `last`
abbrev pub count_indexes : ℕ → List (List ℕ)
count_indexes zero = codes "first" ∷ codes "last" ∷ []
count_indexes (suc last) = (codes "0.." ++ decimal last) ∷ codes "first" ∷ codes "last" ∷ []

-- the indexes that a refusal lists as available: an array's, an object's keys, and none for another value
abbrev pub indexes : Tree → List (List ℕ)
indexes nil = []
indexes (state s) = []
indexes (scalar x) = []
indexes (array ts) = count_indexes (item_count ts)
indexes (object ms) = names ms

-- a front that is not empty is shown in the context `variable`
abbrev pub with_front : Path → Refusal → Refusal
with_front [] refusal = refusal
with_front (index ∷ front) refusal = with_context (codes "variable") (path_text (index ∷ front)) refusal

-- the refusal of an index that the value after the front does not have
abbrev pub unknown_index : Path → Tree → Scal → Refusal
unknown_index front t index =
    with_context (codes "available indexes") (listed (indexes t))
    (with_context (codes "requested index") (render_scalar index) (with_front front (plain (codes "Unknown index"))))

-- the same walk after a front: the value at its end, or the refusal of the first index that has nothing at it
abbrev pub find_after : Path → Tree → Path → Result Tree Refusal
find_after front t [] = Ok t
find_after front t (index ∷ path) =
    ok_then (ok_or (step t index) (unknown_index front t index)) (λ next. find_after (front ++ index ∷ []) next path)

-- the value at the end of a path, or the refusal, whose `variable` is the longest front that leads to a value
abbrev pub find : Tree → Path → Result Tree Refusal
find t path = find_after [] t path
