-- What Jekyll's filter that puts items in the order of their keys returns.
use Rattle.std.specs.Prelude.{
  ℕ,
  Bool,
  true,
  not,
  List,
  [],
  ◌∷◌,
  ◌++◌,
  Option,
  Some,
  None,
  Result,
  Ok,
  Err,
  codes,
  filter,
  map,
  if◌then◌else◌,
}
use Rattle.std.specs.List.{list_all}
use Rattle.std.specs.Str.{bytes_eq}
use Rattle.liquid_error.specs.meaning.Refusal.{Refusal, ok_then}
use Rattle.liquid_scalar.specs.meaning.Scalar.{text}
use Rattle.liquid_value.specs.meaning.Parts.{is_nil}
use Rattle.liquid_value.specs.meaning.Render.{render}
use Rattle.liquid_value.specs.meaning.Tree.{Tree, nil, scalar, array, object, Members, no_members, member}
use Rattle.liquid_filters.specs.meaning.list.Choices.{items_in, keys_of}
use Rattle.liquid_filters.specs.meaning.list.Lists.{list_of}
use Rattle.liquid_filters.specs.meaning.sort.Order as order
use Rattle.liquid_filters.specs.meaning.value.Errors.{array_expected, found_error, unexpected_arguments}
use Rattle.liquid_filters.specs.meaning.value.Items.{own_items}
use Rattle.liquid_jekyll.specs.declared.list.ordering.NilEnd.{NilEnd}
use Rattle.liquid_jekyll.specs.declared.list.ordering.NilEnd.TheVariants.{First, Last}
use Rattle.liquid_jekyll.specs.meaning.list.ItemKeys.{keyed}

-- a name and a value as an array
abbrev pub pair : List ℕ → Tree → Tree
pair name t = list_of (scalar (text name) ∷ t ∷ [])

-- each name and value of an object
abbrev pub pairs : Members → List Tree
pairs no_members = []
pairs (member name t ms) = pair name t ∷ pairs ms

-- the items in the order of the standard filter, or the pairs of an object
abbrev pub sorted_plain : Tree → Result Tree Refusal
sorted_plain (object ms) = Ok (list_of (pairs ms))
sorted_plain other = order.sorted other []

-- the entries whose key is nil, and those whose key isn't
abbrev pub without_key : List (Tree × Tree) → List (Tree × Tree)
without_key es = filter (λ e. is_nil e.0) es

abbrev pub with_key : List (Tree × Tree) → List (Tree × Tree)
with_key es = filter (λ e. not (is_nil e.0)) es

-- whether all keys are scalars of one kind
abbrev pub are_of_one_kind : List Tree → Bool
are_of_one_kind [] = true
are_of_one_kind (key ∷ keys) = list_all (order.one_kind key) keys

-- an entry with the text of its key
abbrev pub text_of : Tree → Tree
text_of key = scalar (text (render key))

abbrev pub with_text : Tree × Tree → Tree × Tree
with_text e = (text_of e.0, e.1)

abbrev pub with_texts : List (Tree × Tree) → List (Tree × Tree)
with_texts es = map with_text es

-- the entries with keys that have an order: if these are not scalars of one kind, their texts
abbrev pub comparable : List (Tree × Tree) → List (Tree × Tree)
comparable es = if are_of_one_kind (keys_of es) then es else with_texts es

-- the items that have a key, in the order of their keys
abbrev pub in_key_order : List (Tree × Tree) → List Tree
in_key_order es = items_in (order.in_order order.comes_before (comparable (with_key es)))

-- the same, with the items of nil keys at this end
abbrev pub arranged : NilEnd → List (Tree × Tree) → List Tree
arranged First es = items_in (without_key es) ++ in_key_order es
arranged Last es = in_key_order es ++ items_in (without_key es)

-- the own items of an array by their keys; nil has none
abbrev pub sorted_by : NilEnd → Tree → Tree → Result Tree Refusal
sorted_by nils (array ts) path = ok_then (keyed (render path) (own_items ts)) (λ es. Ok (list_of (arranged nils es)))
sorted_by nils nil path = Ok (list_of [])
sorted_by nils other path = Err (array_expected other)

-- the same, if a path is named
abbrev pub sorted_if_named : NilEnd → Tree → Tree → Result Tree Refusal
sorted_if_named nils input nil = sorted_plain input
sorted_if_named nils input path = sorted_by nils input path

-- an argument that names no end
abbrev pub order_expected : Tree → Refusal
order_expected t = found_error (codes "Order of nil expected") t

-- the end that an argument names
abbrev pub end_named : List ℕ → Option NilEnd
end_named name =
    if bytes_eq name (codes "first") then Some First else if bytes_eq name (codes "last") then Some Last else None

abbrev pub end_or_refusal : Tree → Option NilEnd → Result NilEnd Refusal
end_or_refusal t (Some end) = Ok end
end_or_refusal t None = Err (order_expected t)

abbrev pub nil_end : Tree → Result NilEnd Refusal
nil_end t = end_or_refusal t (end_named (render t))

-- the same, with the end that another argument names
abbrev pub sorted_at : Tree → Tree → Tree → Result Tree Refusal
sorted_at input nil ends = sorted_plain input
sorted_at input path ends = ok_then (nil_end ends) (λ end. sorted_by end input path)

-- the items in the order of the keys that the first argument names
abbrev pub sorted : Tree → List Tree → Result Tree Refusal
sorted input [] = sorted_plain input
sorted input (path ∷ []) = sorted_if_named First input path
sorted input (path ∷ nils ∷ []) = sorted_at input path nils
sorted input other = Err unexpected_arguments
