-- What Jekyll's filters that choose items by their keys return.
use Rattle.std.specs.Prelude.{
  ℕ,
  Bool,
  true,
  false,
  not,
  ◌==◌,
  ◌||◌,
  List,
  [],
  ◌∷◌,
  Option,
  Some,
  None,
  Result,
  Ok,
  Err,
  filter,
  length,
  map,
  if◌then◌else◌,
}
use Rattle.std.specs.List.{list_any}
use Rattle.std.specs.Str.{bytes_eq}
use Rattle.liquid_error.specs.meaning.Refusal.{Refusal, ok_then}
use Rattle.liquid_scalar.specs.meaning.Scalar.{boolean}
use Rattle.liquid_value.specs.meaning.Parts.{is_nil}
use Rattle.liquid_value.specs.meaning.Render.{render}
use Rattle.liquid_value.specs.meaning.Tree.{Tree, nil, state, scalar, array, object, Members, no_members, member}
use Rattle.liquid_filters.specs.meaning.list.Choices.{having, items_in, where_property}
use Rattle.liquid_filters.specs.meaning.list.Searches.{first_or_nil}
use Rattle.liquid_filters.specs.meaning.value.Errors.{unexpected_arguments}
use Rattle.liquid_filters.specs.meaning.value.Items.{flat}
use Rattle.liquid_jekyll.specs.meaning.list.ItemKeys.{keyed}
use Rattle.liquid_jekyll.specs.meaning.list.Own.{own}

-- nil and `false` name no property
abbrev pub is_no_path : Tree → Bool
is_no_path nil = true
is_no_path (scalar (boolean b)) = not b
is_no_path other = false

-- no key fits an array or an object
abbrev pub is_no_scalar : Tree → Bool
is_no_scalar (array ts) = true
is_no_scalar (object ms) = true
is_no_scalar other = false

abbrev pub has_no_member : Members → Bool
has_no_member no_members = true
has_no_member (member name t ms) = false

-- whether a key is without text: nil, an empty string, an array whose text is empty, an object without members
abbrev pub is_hollow : Tree → Bool
is_hollow (state s) = false
is_hollow (object ms) = has_no_member ms
is_hollow key = length (render key) == 0

-- whether a scalar has this text
abbrev pub is_text : List ℕ → Tree → Bool
is_text t (scalar x) = bytes_eq (render (scalar x)) t
is_text t other = false

-- whether a scalar, or an item of an array at any depth, has this text
abbrev pub has_text : List ℕ → Tree → Bool
has_text t key = list_any (is_text t) (flat key)

-- whether a key fits a value
abbrev pub fits : Tree → Tree → Bool
fits nil key = is_nil key
fits (state s) key = is_hollow key
fits wanted key = has_text (render wanted) key

-- the own items of an input, each after its key, if it has such items
abbrev pub keyed_if : Option (List Tree) → List ℕ → Result (Option (List (Tree × Tree))) Refusal
keyed_if None path = Ok None
keyed_if (Some items) path = ok_then (keyed path items) (λ es. Ok (Some es))

-- the same, or nothing for an input that is kept
abbrev pub candidates : Tree → Tree → Tree → Result (Option (List (Tree × Tree))) Refusal
candidates input path wanted =
    if is_no_path path || is_no_scalar wanted then Ok None else keyed_if (own input) (render path)

-- the items whose key fits, or the input that is kept
abbrev pub fitting_or : Tree → Tree → Option (List (Tree × Tree)) → Tree
fitting_or input wanted None = input
fitting_or input wanted (Some es) = having (fits wanted) es

abbrev pub where_key : Tree → Tree → Tree → Result Tree Refusal
where_key input path wanted = ok_then (candidates input path wanted) (λ o. Ok (fitting_or input wanted o))

-- the first item whose key passes a test, or nil
abbrev pub first_having : (Tree → Bool) → List (Tree × Tree) → Tree
first_having test es = first_or_nil (items_in (filter (λ e. test e.0) es))

abbrev pub first_or : Tree → Tree → Option (List (Tree × Tree)) → Tree
first_or input wanted None = input
first_or input wanted (Some es) = first_having (fits wanted) es

abbrev pub find_key : Tree → Tree → Tree → Result Tree Refusal
find_key input path wanted = ok_then (candidates input path wanted) (λ o. Ok (first_or input wanted o))

-- the items whose key fits the second argument; without it the standard filter is meant
abbrev pub kept_where : Tree → List Tree → Result Tree Refusal
kept_where input (path ∷ wanted ∷ []) = where_key input path wanted
kept_where input other = where_property input other

-- the first of them
abbrev pub found : Tree → List Tree → Result Tree Refusal
found input (path ∷ wanted ∷ []) = find_key input path wanted
found input other = Err unexpected_arguments
