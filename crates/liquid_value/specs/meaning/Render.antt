-- The text that a value renders as, and its source text.
use Rattle.std.specs.Prelude.{ℕ, List, [], ◌++◌, codes}
use Rattle.liquid_scalar.specs.meaning.Scalar.{render_scalar, source_scalar}
use Rattle.liquid_value.specs.meaning.Tree.{Tree, nil, state, scalar, array, object, Items, no_items, item, Members, no_members, member}
use Rattle.liquid_value.specs.meaning.Kind.{type_name}

-- the rendered text: an array's items joined with nothing between them, an object's keys and values likewise, and
-- nothing for a state and for nil
abbrev mutual
  pub render : Tree → List ℕ
  render nil = []
  render (state s) = []
  render (scalar s) = render_scalar s
  render (array items) = render_items items
  render (object ms) = render_members ms

  pub render_items : Items → List ℕ
  render_items no_items = []
  render_items (item t items) = render t ++ render_items items

  pub render_members : Members → List ℕ
  render_members no_members = []
  render_members (member key t ms) = (key ++ render t) ++ render_members ms

-- each item rendered, with a comma and a space after it
abbrev pub listed_items : Items → List ℕ
listed_items no_items = []
listed_items (item t items) = (render t ++ codes ", ") ++ listed_items items

-- an entry: its key in double quotes, a colon, a space and the rendered value, with a comma and a space after it
abbrev pub listed_member : List ℕ → Tree → List ℕ
listed_member key t = codes "\"" ++ (key ++ (codes "\": " ++ (render t ++ codes ", ")))

-- each entry written so
abbrev pub listed_members : Members → List ℕ
listed_members no_members = []
listed_members (member key t ms) = listed_member key t ++ listed_members ms

-- the source text: for a state and for nil, the name of the type; for a string, that text in double quotes
abbrev pub source : Tree → List ℕ
source nil = type_name nil
source (state s) = type_name (state s)
source (scalar s) = source_scalar s
source (array items) = codes "[" ++ (listed_items items ++ codes "]")
source (object ms) = codes "{" ++ (listed_members ms ++ codes "}")
