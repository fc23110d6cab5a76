-- The JSON that a value is shown as.
use Rattle.std.specs.Prelude.{ℤ, Option, None, Some}
use Rattle.serde_json.specs.Data as json
use Rattle.serde_json.specs.Find.{of_integer}
use Rattle.liquid_scalar.specs.meaning.Scalar.{Scal, boolean, to_integer, render_scalar}
use Rattle.liquid_value.specs.meaning.Tree.{Tree, nil, state, scalar, array, object, Items, no_items, item, Members, no_members, member}

-- a boolean is itself, and every other scalar its text
abbrev pub text_shown : Scal → json.Data
text_shown (boolean b) = json.boolean b
text_shown other = json.string (render_scalar other)

abbrev pub number_or : Option ℤ → json.Data → json.Data
number_or (Some n) other = json.number (of_integer n)
number_or None other = other

-- a number, and a string that writes a number, is that number
abbrev pub scalar_shown : Scal → json.Data
scalar_shown s = number_or (to_integer s) (text_shown s)

-- nil and the states are null
abbrev mutual
  pub value_shown : Tree → json.Data
  value_shown nil = json.null
  value_shown (state s) = json.null
  value_shown (scalar s) = scalar_shown s
  value_shown (array ts) = json.array (items_shown ts)
  value_shown (object ms) = json.object (members_shown ms)

  pub items_shown : Items → json.Items
  items_shown no_items = json.no_items
  items_shown (item t ts) = json.item (value_shown t) (items_shown ts)

  pub members_shown : Members → json.Members
  members_shown no_members = json.no_members
  members_shown (member key t ms) = json.member key (value_shown t) (members_shown ms)
