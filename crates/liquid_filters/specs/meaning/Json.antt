-- The JSON of a value.
use Rattle.std.specs.Prelude.{ℕ, List, [], ◌++◌, Bool, true, false, codes, cond}
use Rattle.std.specs.Fmt.{signed_decimal}
use Rattle.serde_json.specs.Data as json
use Rattle.serde_json.specs.Written.{compact_text}
use Rattle.liquid_scalar.specs.meaning.Scalar.{Scal, integer, boolean, text, boolean_text, render_scalar}
use Rattle.liquid_value.specs.meaning.Tree.{Tree, nil, state, scalar, array, object, Items, no_items, item, Members, no_members, member}

-- a string in quotes, escaped as JSON requires
abbrev pub quoted : List ℕ → List ℕ
quoted bytes = compact_text (json.string bytes)

-- a number and a boolean as they render, and any other scalar in quotes
abbrev pub scalar_json : Scal → List ℕ
scalar_json (integer n) = signed_decimal n
scalar_json (boolean b) = boolean_text b
scalar_json other = quoted (render_scalar other)

-- a comma before each but the first
abbrev pub comma : Bool → List ℕ
comma later = cond later (codes ",") []

-- nil and the states are null; items and members are separated by commas, with no whitespace anywhere
abbrev mutual
  pub json_text : Tree → List ℕ
  json_text nil = codes "null"
  json_text (state s) = codes "null"
  json_text (scalar x) = scalar_json x
  json_text (array ts) = codes "[" ++ (items_json false ts ++ codes "]")
  json_text (object ms) = codes "{" ++ (members_json false ms ++ codes "}")

  pub items_json : Bool → Items → List ℕ
  items_json later no_items = []
  items_json later (item t ts) = (comma later ++ json_text t) ++ items_json true ts

  -- a member is a name, a colon and a value
  pub members_json : Bool → Members → List ℕ
  members_json later no_members = []
  members_json later (member key t ms) = (comma later ++ (quoted key ++ (codes ":" ++ json_text t))) ++ members_json true ms

-- the text as a value
abbrev pub as_json : Tree → Tree
as_json t = scalar (text (json_text t))
