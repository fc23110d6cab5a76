-- Which values are equal in a condition.
use Rattle.std.specs.Prelude.{Bool, false}
use Rattle.liquid_value.specs.declared.state.State.{State}
use Rattle.liquid_value.specs.declared.state.State.TheVariants.{Empty}
use Rattle.liquid_value.specs.meaning.Kind.{query_state}
use Rattle.liquid_value.specs.meaning.Loose.{value_eq}
use Rattle.liquid_value.specs.meaning.Strict.{same_value}
use Rattle.liquid_value.specs.meaning.Tree.{Tree, nil, state}
use Rattle.liquid_std.specs.declared.conditions.equality.Equality.{Equality}
use Rattle.liquid_std.specs.declared.conditions.equality.Equality.TheVariants.{Loose, Same}

-- whether a value is a text, an array or an object without entries
abbrev pub is_empty : Tree → Bool
is_empty nil = false
is_empty (state s) = false
is_empty t = query_state t Empty

-- `empty` equals what is empty, and no other state equals anything
abbrev pub state_equals : State → Tree → Bool
state_equals Empty t = is_empty t
state_equals s t = false

-- whether two values are the same, or one of them is a state that equals the other
abbrev pub is_same : Tree → Tree → Bool
is_same (state s) r = state_equals s r
is_same l (state s) = state_equals s l
is_same l r = same_value l r

-- whether two values are equal
abbrev pub equal_by : Equality → Tree → Tree → Bool
equal_by Loose l r = value_eq l r
equal_by Same l r = is_same l r
