-- What a value holds, by its kind.
use Rattle.std.specs.Prelude.{Bool, true, false, Option, None, Some}
use Rattle.liquid_scalar.specs.meaning.Scalar.{Scal}
use Rattle.liquid_value.specs.declared.state.State.{State}
use Rattle.liquid_value.specs.meaning.Tree.{Tree, nil, state, scalar, array, object, Items, Members}

-- the scalar of a scalar
abbrev pub as_scalar : Tree → Option Scal
as_scalar (scalar x) = Some x
as_scalar other = None

-- the items of an array
abbrev pub as_array : Tree → Option Items
as_array (array ts) = Some ts
as_array other = None

-- the members of an object
abbrev pub as_object : Tree → Option Members
as_object (object ms) = Some ms
as_object other = None

-- the state of a state
abbrev pub as_state : Tree → Option State
as_state (state s) = Some s
as_state other = None

-- whether it is nil
abbrev pub is_nil : Tree → Bool
is_nil nil = true
is_nil other = false
