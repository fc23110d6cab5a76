-- What the filters that search items by a property return.
use Rattle.std.specs.Prelude.{ℕ, ◌+◌, pos, List, [], ◌∷◌, Bool, not, map, filter, if◌then◌else◌, Some, Result, Ok, Err}
use Rattle.std.specs.List.{list_any}
use Rattle.liquid_error.specs.meaning.Refusal.{Refusal, ok_then}
use Rattle.liquid_scalar.specs.meaning.Scalar.{boolean, integer}
use Rattle.liquid_value.specs.meaning.Render.{render}
use Rattle.liquid_value.specs.meaning.Tree.{Tree, nil, scalar}
use Rattle.liquid_filters.specs.meaning.value.Errors.{unexpected_arguments}
use Rattle.liquid_filters.specs.meaning.value.Items.{flat}
use Rattle.liquid_filters.specs.meaning.list.Choices.{is_wanted}
use Rattle.liquid_filters.specs.meaning.list.Keys.{keyed}
use Rattle.liquid_filters.specs.meaning.list.Lists.{list_of}

-- whether each item's property is as wanted, and the item
abbrev pub tested_items : Tree → List (Tree × Tree) → List (Bool × Tree)
tested_items wanted es = map (λ e. (is_wanted wanted e.0, e.1)) es

abbrev pub tested_by : Tree → Tree → Tree → Result (List (Bool × Tree)) Refusal
tested_by input name wanted = ok_then (keyed (Some (render name)) (flat input)) (λ es. Ok (tested_items wanted es))

-- the same for the arguments: a name, and perhaps what is wanted
abbrev pub tested : Tree → List Tree → Result (List (Bool × Tree)) Refusal
tested input (name ∷ []) = tested_by input name nil
tested input (name ∷ wanted ∷ []) = tested_by input name wanted
tested input other = Err unexpected_arguments

-- the items that pass, and those that don't
abbrev pub passing : List (Bool × Tree) → List Tree
passing ts = map (λ t. t.1) (filter (λ t. t.0) ts)

abbrev pub failing : List (Bool × Tree) → List Tree
failing ts = map (λ t. t.1) (filter (λ t. not t.0) ts)

-- the first one, or nil
abbrev pub first_or_nil : List Tree → Tree
first_or_nil [] = nil
first_or_nil (t ∷ ts) = t

-- the index of the first that passes, where the first one has that index; nil if none passes
abbrev pub index_from : ℕ → List (Bool × Tree) → Tree
index_from n [] = nil
index_from n (t ∷ ts) = if t.0 then scalar (integer (pos n)) else index_from (n + 1) ts

-- the first item whose property is as wanted
abbrev pub found : Tree → List Tree → Result Tree Refusal
found input arguments = ok_then (tested input arguments) (λ ts. Ok (first_or_nil (passing ts)))

-- its index
abbrev pub found_index : Tree → List Tree → Result Tree Refusal
found_index input arguments = ok_then (tested input arguments) (λ ts. Ok (index_from 0 ts))

-- whether there is one
abbrev pub has_any : Tree → List Tree → Result Tree Refusal
has_any input arguments = ok_then (tested input arguments) (λ ts. Ok (scalar (boolean (list_any (λ t. t.0) ts))))

-- the items whose property is not as wanted
abbrev pub rejected : Tree → List Tree → Result Tree Refusal
rejected input arguments = ok_then (tested input arguments) (λ ts. Ok (list_of (failing ts)))
