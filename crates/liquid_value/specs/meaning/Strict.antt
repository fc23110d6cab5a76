-- Strict equality of values, and what a value feeds a hasher.
use Rattle.std.specs.Prelude.{ℕ, List, ◌++◌, Bool, true, false, ◌&&◌, ◌==◌, nat_eq}
use Rattle.std.specs.Cmp.Lexicographic.{pointwise}
use Rattle.std.specs.Hash as writes
use Rattle.liquid_scalar.specs.meaning.ScalarCompare.{same_scalar, scalar_hash}
use Rattle.liquid_value.specs.declared.state.State.{State}
use Rattle.liquid_value.specs.declared.state.State.TheVariants.{Truthy, DefaultValue, Empty, Blank}
use Rattle.liquid_value.specs.meaning.Tree.{Tree, nil, state, scalar, array, object, Items, no_items, item, Members, no_members, member}

-- a state's number
abbrev pub state_code : State → ℕ
state_code Truthy = 0
state_code DefaultValue = 1
state_code Empty = 2
state_code Blank = 3

-- the same kind, and the same content
abbrev mutual
  pub same_value : Tree → Tree → Bool
  same_value nil nil = true
  same_value (state s) (state u) = state_code s == state_code u
  same_value (scalar x) (scalar y) = same_scalar x y
  same_value (array ls) (array rs) = same_items ls rs
  same_value (object ls) (object rs) = same_members ls rs
  same_value l r = false

  pub same_items : Items → Items → Bool
  same_items no_items no_items = true
  same_items (item l ls) (item r rs) = same_value l r && same_items ls rs
  same_items ls rs = false

  pub same_members : Members → Members → Bool
  same_members no_members no_members = true
  same_members (member k l ls) (member q r rs) = pointwise nat_eq k q && (same_value l r && same_members ls rs)
  same_members ls rs = false

-- a byte for the kind, then the content; a byte ends the items of an array and the entries of an object
abbrev mutual
  pub value_hash : Tree → List (List ℕ)
  value_hash (scalar x) = writes.u8 0 ++ scalar_hash x
  value_hash (array ts) = writes.u8 1 ++ items_hash ts
  value_hash (object ms) = writes.u8 2 ++ members_hash ms
  value_hash (state s) = writes.u8 3 ++ writes.u8 (state_code s)
  value_hash nil = writes.u8 4

  pub items_hash : Items → List (List ℕ)
  items_hash no_items = writes.u8 5
  items_hash (item t ts) = value_hash t ++ items_hash ts

  pub members_hash : Members → List (List ℕ)
  members_hash no_members = writes.u8 6
  members_hash (member k t ms) = (writes.str k ++ value_hash t) ++ members_hash ms
