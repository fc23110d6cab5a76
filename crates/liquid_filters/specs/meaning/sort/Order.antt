-- The order of a list.
use Rattle.std.specs.Prelude.{ℕ, List, [], ◌∷◌, Bool, false, not, ◌==◌, cond}
use Rattle.std.specs.Prelude.{map, filter, find, unwrap_or, Option, Some, None, Result, Ok, Err}
use Rattle.std.specs.declared.cmp.Ordering.{Ordering}
use Rattle.std.specs.declared.cmp.Ordering.TheVariants.{Equal}
use Rattle.std.specs.Ordering.{is_lt, nat_cmp, ordering_then}
use Rattle.std.specs.Option.{option_map}
use Rattle.std.specs.Str.{str_to_ascii_lowercase}
use Rattle.liquid_error.specs.meaning.Refusal.{Refusal, ok_then}
use Rattle.liquid_scalar.specs.meaning.Scalar.{Scal, integer, boolean, text, date, date_time}
use Rattle.liquid_scalar.specs.meaning.ScalarCompare.{scalar_cmp}
use Rattle.liquid_value.specs.meaning.Parts.{is_nil}
use Rattle.liquid_value.specs.meaning.Render.{render}
use Rattle.liquid_value.specs.meaning.Tree.{Tree, nil, scalar}
use Rattle.liquid_filters.specs.meaning.value.Errors.{without_order}
use Rattle.liquid_filters.specs.meaning.list.Choices.{items_in, keys_of}
use Rattle.liquid_filters.specs.meaning.list.Keys.{entries}
use Rattle.liquid_filters.specs.meaning.list.Lists.{list_of}

-- the rank of each kind of scalars
abbrev pub scalar_rank : Scal → ℕ
scalar_rank (integer n) = 0
scalar_rank (boolean b) = 1
scalar_rank (text t) = 2
scalar_rank (date d) = 3
scalar_rank (date_time dt) = 4

-- the rank of each kind of keys: the kinds of scalars, then everything that has no order, and nil last
abbrev pub rank : Tree → ℕ
rank (scalar x) = scalar_rank x
rank nil = 6
rank other = 5

-- the order of two scalars of one kind
abbrev pub order_in_kind : Tree → Tree → Option Ordering
order_in_kind (scalar x) (scalar y) = scalar_cmp x y
order_in_kind x y = None

-- which of two keys is first: by their kinds, and in one kind by the order of scalars
abbrev pub key_cmp : Tree → Tree → Ordering
key_cmp x y = ordering_then (nat_cmp (rank x) (rank y)) (unwrap_or (order_in_kind x y) Equal)

-- whether an entry comes before another because its key does
abbrev pub comes_before : Tree × Tree → Tree × Tree → Bool
comes_before a b = is_lt (key_cmp a.0 b.0)

-- an entry put before the first one that does not have to be before it
abbrev pub put_in : {X : Type 0} → (X → X → Bool) → X → List X → List X
put_in before x [] = x ∷ []
put_in before x (y ∷ ys) = cond (before y x) (y ∷ put_in before x ys) (x ∷ y ∷ ys)

-- the entries in order; those where neither has to be first stay as they are
abbrev pub in_order : {X : Type 0} → (X → X → Bool) → List X → List X
in_order before [] = []
in_order before (x ∷ xs) = put_in before x (in_order before xs)

-- the items in the order of their keys
abbrev pub ordered : List (Tree × Tree) → Tree
ordered es = list_of (items_in (in_order comes_before es))

-- whether two keys are scalars of one kind
abbrev pub one_kind : Tree → Tree → Bool
one_kind (scalar x) (scalar y) = scalar_rank x == scalar_rank y
one_kind x y = false

-- the first key that has no order with the first of all
abbrev pub without_kin : List Tree → Option (Tree × Tree)
without_kin [] = None
without_kin (key ∷ keys) = option_map (λ other. (key, other)) (find (λ other. not (one_kind key other)) keys)

-- the error for two keys that have no order
abbrev pub checked : Option (Tree × Tree) → Result (Unit {0}) Refusal
checked (Some p) = Err (without_order p.0 p.1)
checked None = Ok tt

-- the keys that are not nil
abbrev pub present : List Tree → List Tree
present keys = filter (λ key. not (is_nil key)) keys

-- the items in order, or the error for two of their keys that have none
abbrev pub ordered_if_kin : List (Tree × Tree) → Result Tree Refusal
ordered_if_kin es = ok_then (checked (without_kin (present (keys_of es)))) (λ _. Ok (ordered es))

-- the items in the order of their keys, which are themselves or the property that the argument names
abbrev pub sorted : Tree → List Tree → Result Tree Refusal
sorted input arguments = ok_then (entries input arguments) ordered_if_kin

-- a key by its text with ASCII letters in lower case
abbrev pub natural_key : Tree → Tree
natural_key nil = nil
natural_key t = scalar (text (str_to_ascii_lowercase (render t)))

-- the same by those keys, which all have an order
abbrev pub sorted_naturally : Tree → List Tree → Result Tree Refusal
sorted_naturally input arguments = ok_then (entries input arguments) (λ es. Ok (ordered (map (λ e. (natural_key e.0, e.1)) es)))
