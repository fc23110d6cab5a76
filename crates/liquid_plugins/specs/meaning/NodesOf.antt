-- The shapes of a template's nodes, from the shapes of what plug-ins made.
use Rattle.std.specs.Prelude.{◌≡◌, ◌⊎◌, ℕ, List, [], map, String, string_bytes}
use Rattle.std.specs.declared.alloc.Global.{Global}
use Rattle.liquid_scalar.specs.meaning.Scalar.{text}
use Rattle.liquid_plugins.specs.meaning.Chain.{ChainShape}
use Rattle.liquid_plugins.specs.meaning.Expression.{variable, no_indexes}
use Rattle.liquid_plugins.specs.meaning.ExpressionOf.{chain_of}
use Rattle.liquid_plugins.specs.meaning.Nodes.{NodeShape, text_node, chain_node, tag_node, block_node, Nodes, nodes_from, parts_from}
use Rattle.arrayvec.specs.ArrayString.{ArrayString}
use Rattle.liquid_plugins.specs.declared.tree.Node.{Node, Text, Brief, fold-Node}
use Rattle.liquid_plugins.specs.declared.tree.Node.TheOpen.{Node-F}

-- the chain of a name alone
abbrev pub name_chain : {F : Type 0} → List ℕ → ChainShape F
name_chain name = record { entry = variable (text name) no_indexes; filters = [] }

-- the node is a text of these bytes, in memory of its own or in the node
abbrev pub IsText : {X N K : Type 0} → Node X N K → List ℕ → Type 0
IsText node bytes =
    ((t : String Global) × (node ≡ Text t) × (string_bytes t ≡ bytes)) ⊎ ((t : ArrayString) × (node ≡ Brief t) × (t.bytes ≡ bytes))

module _ {X N K F T B : Type 0} (filter : X → F) (tag : N → T) (block : K → B) where
  -- one level of a node, with each node inside already given as its shape. Where the node begins is no part of its meaning
  abbrev pub node_step : Node-F X N K (NodeShape F T B) → NodeShape F T B
  node_step (Node-F.Text s) = text_node (string_bytes s)
  node_step (Node-F.Brief s) = text_node s.bytes
  node_step (Node-F.Name left s) = chain_node (name_chain s.bytes)
  node_step (Node-F.Chain left c) = chain_node (chain_of filter c)
  node_step (Node-F.Tag left n) = tag_node (tag n)
  node_step (Node-F.Block left b parts) = block_node (block b) (parts_from (map (λ ns. nodes_from ns.items) parts.items))

  -- the shape of a node
  unfoldable pub node_of : Node X N K → NodeShape F T B
  node_of = fold-Node X N K (NodeShape F T B) node_step

  -- the shapes of a list of nodes, and the same as nodes
  abbrev pub shapes_of : List (Node X N K) → List (NodeShape F T B)
  shapes_of = map node_of

  abbrev pub nodes_of : List (Node X N K) → Nodes F T B
  nodes_of ns = nodes_from (shapes_of ns)
