-- Objects put together: one over another, one under a name, and a text at a path of names.
use Rattle.std.specs.Prelude.{ℕ, List, [], ◌∷◌, Bool, ◌==◌, Option, Some, None, length, option_and_then, if◌then◌else◌}
use Rattle.std.specs.List.{slice_split, before_first, after_first, position_or_len}
use Rattle.liquid_scalar.specs.meaning.Scalar.{text}
use Rattle.liquid_value.specs.meaning.Members.{get_member, put_member}
use Rattle.liquid_value.specs.meaning.Tree.{Tree, nil, state, scalar, array, object, Members, no_members, member}

-- the members of both, where a name of the second has its value there
abbrev pub merged : Members → Members → Members
merged below no_members = below
merged below (member name t above) = merged (put_member name t below) above

-- the object at a name: a new one if there is no value, and none if the value is no object
abbrev pub object_found : Option Tree → Option Members
object_found None = Some no_members
object_found (Some (object ms)) = Some ms
object_found (Some nil) = None
object_found (Some (state s)) = None
object_found (Some (scalar s)) = None
object_found (Some (array ts)) = None

-- the members with a value at a name, which may not be empty
abbrev pub put_named : List ℕ → Tree → Members → Option Members
put_named name t ms = if length name == 0 then None else Some (put_member name t ms)

-- the members with a text at a path of names, where an object is at each name but the last
abbrev pub set_at : List (List ℕ) → List ℕ → Members → Option Members
set_at [] words ms = None
set_at (name ∷ []) words ms = put_named name (scalar (text words)) ms
set_at (name ∷ next ∷ names) words ms =
    option_and_then (λ inner. put_named name (object inner) ms)
    (option_and_then (set_at (next ∷ names) words) (object_found (get_member name ms)))

-- the bytes between names, and between a path and its text
abbrev pub is_point : ℕ → Bool
is_point c = c == 46

abbrev pub is_equals : ℕ → Bool
is_equals c = c == 61

-- the members after an assignment `a.b=text`
abbrev pub assigned : List ℕ → Members → Option Members
assigned words ms =
    if position_or_len is_equals words == length words then None
    else set_at (slice_split is_point (before_first is_equals words)) (after_first is_equals words) ms
