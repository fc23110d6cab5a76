-- The kinds of values: their names, and the states that they are in.
use Rattle.std.specs.Prelude.{ℕ, List, Bool, true, false, not, codes, length, ◌==◌}
use Rattle.std.specs.Str.{trim}
use Rattle.liquid_scalar.specs.meaning.Scalar.{Scal, boolean, text, scalar_type_name}
use Rattle.liquid_value.specs.declared.state.State.{State}
use Rattle.liquid_value.specs.declared.state.State.TheVariants.{Truthy, DefaultValue, Empty, Blank}
use Rattle.liquid_value.specs.meaning.Tree.{Tree, nil, state, scalar, array, object, Items, no_items, item, Members, no_members, member}

-- the name of a state
abbrev pub state_name : State → List ℕ
state_name Truthy = codes "truthy"
state_name DefaultValue = codes "default"
state_name Empty = codes "empty"
state_name Blank = codes "blank"

-- the name of a value's type
abbrev pub type_name : Tree → List ℕ
type_name nil = codes "nil"
type_name (state s) = state_name s
type_name (scalar s) = scalar_type_name s
type_name (array items) = codes "array"
type_name (object ms) = codes "object"

-- whether an array has no items
abbrev pub has_no_items : Items → Bool
has_no_items no_items = true
has_no_items (item t items) = false

-- whether an object has no entries
abbrev pub has_no_members : Members → Bool
has_no_members no_members = true
has_no_members (member key t entries) = false

-- nil and the states are in each state but the truthy one
abbrev pub absent_state : State → Bool
absent_state Truthy = false
absent_state DefaultValue = true
absent_state Empty = true
absent_state Blank = true

-- an array or an object is truthy, and in the other states if it is empty
abbrev pub container_state : Bool → State → Bool
container_state is_empty Truthy = true
container_state is_empty DefaultValue = is_empty
container_state is_empty Empty = is_empty
container_state is_empty Blank = is_empty

-- a string is truthy, default and empty if it has no bytes, and blank if it has nothing but whitespace
abbrev pub text_state : List ℕ → State → Bool
text_state t Truthy = true
text_state t DefaultValue = length t == 0
text_state t Empty = length t == 0
text_state t Blank = length (trim t) == 0

-- a boolean is truthy if it is true, default and blank if it is false, and never empty
abbrev pub boolean_state : Bool → State → Bool
boolean_state b Truthy = b
boolean_state b DefaultValue = not b
boolean_state b Empty = false
boolean_state b Blank = not b

-- a number and a date are truthy and nothing else
abbrev pub number_state : State → Bool
number_state Truthy = true
number_state DefaultValue = false
number_state Empty = false
number_state Blank = false

-- the states that a scalar is in
abbrev pub scalar_state : Scal → State → Bool
scalar_state (boolean b) s = boolean_state b s
scalar_state (text t) s = text_state t s
scalar_state other s = number_state s

-- the states that a value is in
abbrev pub query_state : Tree → State → Bool
query_state nil s = absent_state s
query_state (state own) s = absent_state s
query_state (scalar x) s = scalar_state x s
query_state (array items) s = container_state (has_no_items items) s
query_state (object ms) s = container_state (has_no_members ms) s
