-- What the filters read of one value: a property, its size, whether it counts as true.
use Rattle.std.specs.Prelude.{ℕ, List, Bool, Option, Some, None, Result, Ok, Err, length}
use Rattle.std.specs.Str.{chars}
use Rattle.liquid_error.specs.meaning.Refusal.{Refusal}
use Rattle.liquid_value.specs.declared.state.State.TheVariants.{Truthy}
use Rattle.liquid_value.specs.meaning.Kind.{query_state}
use Rattle.liquid_value.specs.meaning.Members.{get_member, item_count, member_count}
use Rattle.liquid_value.specs.meaning.Render.{render}
use Rattle.liquid_value.specs.meaning.Tree.{Tree, nil, array, object}
use Rattle.liquid_filters.specs.meaning.value.Errors.{object_expected}

-- a member, or nil if there is none
abbrev pub or_nil : Option Tree → Tree
or_nil (Some t) = t
or_nil None = nil

-- an object's own member of that name, or nil; nil for nil
abbrev pub property : List ℕ → Tree → Result Tree Refusal
property name (object ms) = Ok (or_nil (get_member name ms))
property name nil = Ok nil
property name other = Err (object_expected name other)

-- whether the value counts as true
abbrev pub truthy : Tree → Bool
truthy t = query_state t Truthy

-- the number of entries of an array or an object, or of characters of a string
abbrev pub size_of : Tree → ℕ
size_of (array ts) = item_count ts
size_of (object ms) = member_count ms
size_of other = length (chars (render other))
