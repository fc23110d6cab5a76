-- What a tag or a block sees of the names around it.
use Rattle.std.specs.Prelude.{ℕ, false, List, [], ◌∷◌, Option, None, Some, option_and_then}
use Rattle.std.specs.Option.{option_map_or}
use Rattle.liquid_scalar.specs.meaning.Scalar.{boolean, text}
use Rattle.liquid_value.specs.meaning.Members.{get_member}
use Rattle.liquid_value.specs.meaning.Parts.{as_object}
use Rattle.liquid_value.specs.meaning.Render.{render}
use Rattle.liquid_value.specs.meaning.Tree.{Tree, nil, scalar}
use Rattle.liquid_runtime.specs.meaning.Lookup.{try_path}
use Rattle.liquid_runtime.specs.meaning.View.{View}

-- the text of a value; none if there is no value
abbrev pub rendered : Option Tree → List ℕ
rendered found = option_map_or render found []

-- the text of the value of a name
abbrev pub text_seen : {Reg : Type 0} → List ℕ → View Reg → List ℕ
text_seen name v = rendered (try_path v (text name ∷ []))

-- a member of an object
abbrev pub member : List ℕ → Tree → Option Tree
member name t = option_and_then (get_member name) (as_object t)

-- its text
abbrev pub member_text : List ℕ → Tree → List ℕ
member_text name t = rendered (member name t)

-- the text of a value that is neither nil nor false
abbrev pub as_given : Tree → Option (List ℕ)
as_given nil = None
as_given (scalar (boolean false)) = None
as_given other = Some (render other)

-- that of a member
abbrev pub given_text : List ℕ → Tree → Option (List ℕ)
given_text name t = option_and_then as_given (member name t)

-- the text that a value is, if it is one
abbrev pub text_of : Tree → Option (List ℕ)
text_of (scalar (text t)) = Some t
text_of other = None

-- the member of an object that is a text
abbrev pub text_member : List ℕ → Tree → Option (List ℕ)
text_member name t = option_and_then text_of (member name t)
