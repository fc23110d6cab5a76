-- What a filter reads of the names around it.
use Rattle.std.specs.Prelude.{ℕ, List, [], ◌∷◌, Option, option_and_then}
use Rattle.std.specs.Option.{option_map_or, unwrap_or}
use Rattle.liquid_scalar.specs.meaning.Scalar.{text}
use Rattle.liquid_value.specs.meaning.Members.{get_member}
use Rattle.liquid_value.specs.meaning.Parts.{as_object}
use Rattle.liquid_value.specs.meaning.Render.{render}
use Rattle.liquid_value.specs.meaning.Tree.{Tree, nil}
use Rattle.liquid_runtime.specs.meaning.Lookup.{try_path}
use Rattle.liquid_runtime.specs.meaning.View.{View}

-- the value of a name; nil for a name without one
abbrev pub value_seen : {Reg : Type 0} → List ℕ → View Reg → Tree
value_seen name v = unwrap_or (try_path v (text name ∷ [])) nil

-- a member of an object, if it has one of this name
abbrev pub member : List ℕ → Tree → Option Tree
member name t = option_and_then (get_member name) (as_object t)

-- its text; none without one
abbrev pub member_text : List ℕ → Tree → List ℕ
member_text name t = option_map_or render (member name t) []
