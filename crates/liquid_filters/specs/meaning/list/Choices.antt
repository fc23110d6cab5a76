-- What the filters that choose items by their keys return.
use Rattle.std.specs.Prelude.{List, [], ◌∷◌, Bool, not, map, filter, Some, Result, Ok, Err}
use Rattle.liquid_error.specs.meaning.Refusal.{Refusal, ok_then}
use Rattle.liquid_value.specs.meaning.Parts.{is_nil}
use Rattle.liquid_value.specs.meaning.Render.{render}
use Rattle.liquid_value.specs.meaning.Strict.{same_value}
use Rattle.liquid_value.specs.meaning.Tree.{Tree, nil}
use Rattle.liquid_filters.specs.meaning.value.Errors.{unexpected_arguments}
use Rattle.liquid_filters.specs.meaning.value.Items.{flat}
use Rattle.liquid_filters.specs.meaning.value.Parts.{truthy}
use Rattle.liquid_filters.specs.meaning.list.Keys.{entries, keyed}
use Rattle.liquid_filters.specs.meaning.list.Lists.{list_of}

-- the keys alone, and the items alone
abbrev pub keys_of : List (Tree × Tree) → List Tree
keys_of es = map (λ e. e.0) es

abbrev pub items_in : List (Tree × Tree) → List Tree
items_in es = map (λ e. e.1) es

-- the items whose key passes a test
abbrev pub having : (Tree → Bool) → List (Tree × Tree) → Tree
having test es = list_of (items_in (filter (λ e. test e.0) es))

-- each item's property of that name
abbrev pub mapped : Tree → List Tree → Result Tree Refusal
mapped input (name ∷ []) = ok_then (keyed (Some (render name)) (flat input)) (λ es. Ok (list_of (keys_of es)))
mapped input other = Err unexpected_arguments

-- the items that are not nil, or whose property is not
abbrev pub compacted : Tree → List Tree → Result Tree Refusal
compacted input arguments = ok_then (entries input arguments) (λ es. Ok (having (λ key. not (is_nil key)) es))

-- whether a property is as wanted: the same, or truthy if no value is wanted
abbrev pub is_wanted : Tree → Tree → Bool
is_wanted nil key = truthy key
is_wanted t key = same_value key t

-- the items whose property of that name is as wanted
abbrev pub having_property : Tree → Tree → Tree → Result Tree Refusal
having_property input name wanted = ok_then (keyed (Some (render name)) (flat input)) (λ es. Ok (having (is_wanted wanted) es))

abbrev pub where_property : Tree → List Tree → Result Tree Refusal
where_property input (name ∷ []) = having_property input name nil
where_property input (name ∷ wanted ∷ []) = having_property input name wanted
where_property input other = Err unexpected_arguments

-- the entries whose key is not the same as one before
abbrev pub distinct : List (Tree × Tree) → List (Tree × Tree)
distinct [] = []
distinct (e ∷ es) = e ∷ filter (λ later. not (same_value e.0 later.0)) (distinct es)

-- the items that are the first with their key
abbrev pub unique : Tree → List Tree → Result Tree Refusal
unique input arguments = ok_then (entries input arguments) (λ es. Ok (list_of (items_in (distinct es))))
