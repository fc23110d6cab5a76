-- What a value means: a tree, as plain data.
use Rattle.std.specs.Prelude.{ℕ, List}
use Rattle.liquid_scalar.specs.meaning.Scalar.{Scal}
use Rattle.liquid_value.specs.declared.state.State.{State}

-- nil, a state, a scalar, a list of trees, or a map from name to tree in byte order of the names
mutual
  pub data Tree : Type 0 where
    nil : Tree
    state : State → Tree
    scalar : Scal → Tree
    array : Items → Tree
    object : Members → Tree

  pub data Items : Type 0 where
    no_items : Items
    item : Tree → Items → Items

  pub data Members : Type 0 where
    no_members : Members
    member : List ℕ → Tree → Members → Members
