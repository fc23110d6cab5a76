-- What the kind of a value says about it: the scalar or state, or whether an array or object is empty.
use Rattle.std.specs.Prelude.{ℕ, List, Bool, true, false, Option, Some, None, codes}
use Rattle.std.specs.Cow.{cow_str_bytes}
use Rattle.liquid_scalar.specs.meaning.Scalar.{Scal, scal, scalar_type_name}
use Rattle.liquid_value.specs.meaning.Kind.{has_no_items, has_no_members, state_name, absent_state, scalar_state, container_state}
use Rattle.liquid_value.specs.meaning.Tree as tree
use Rattle.liquid_value.specs.declared.state.State.{State}
use Rattle.liquid_views.specs.declared.kind.ViewKind.{ViewKind}
use Rattle.liquid_views.specs.declared.kind.ViewKind.TheVariants.{Scalar, Array, Object, State as StateKind, Nil}

pub data Outline : Type 0 where
  nil_outline : Outline
  state_outline : State → Outline
  scalar_outline : Scal → Outline
  array_outline : Bool → Outline
  object_outline : Bool → Outline

-- the outline of a value
abbrev pub outline : tree.Tree → Outline
outline tree.nil = nil_outline
outline (tree.state s) = state_outline s
outline (tree.scalar x) = scalar_outline x
outline (tree.array ts) = array_outline (has_no_items ts)
outline (tree.object ms) = object_outline (has_no_members ms)

-- the outline that a kind gives
abbrev pub told_outline : ViewKind → Outline
told_outline Nil = nil_outline
told_outline (StateKind s) = state_outline s
told_outline (Scalar x) = scalar_outline (scal cow_str_bytes x)
told_outline (Array is_empty) = array_outline is_empty
told_outline (Object is_empty) = object_outline is_empty

-- the name of its type
abbrev pub outline_name : Outline → List ℕ
outline_name nil_outline = codes "nil"
outline_name (state_outline s) = state_name s
outline_name (scalar_outline x) = scalar_type_name x
outline_name (array_outline is_empty) = codes "array"
outline_name (object_outline is_empty) = codes "object"

-- the states that it is in
abbrev pub outline_state : Outline → State → Bool
outline_state nil_outline s = absent_state s
outline_state (state_outline own) s = absent_state s
outline_state (scalar_outline x) s = scalar_state x s
outline_state (array_outline is_empty) s = container_state is_empty s
outline_state (object_outline is_empty) s = container_state is_empty s

-- its scalar
abbrev pub outline_scalar : Outline → Option Scal
outline_scalar (scalar_outline x) = Some x
outline_scalar other = None

-- the state that it is
abbrev pub outline_own_state : Outline → Option State
outline_own_state (state_outline s) = Some s
outline_own_state other = None

-- whether it is an array, an object, nil
abbrev pub is_array_outline : Outline → Bool
is_array_outline (array_outline is_empty) = true
is_array_outline other = false

abbrev pub is_object_outline : Outline → Bool
is_object_outline (object_outline is_empty) = true
is_object_outline other = false

abbrev pub is_nil_outline : Outline → Bool
is_nil_outline nil_outline = true
is_nil_outline other = false
