-- The number of plug-in nodes in a list of nodes, at any depth.
use Rattle.std.specs.Prelude.{ℕ, ◌+◌}
use Rattle.liquid_plugins.specs.meaning.Nodes.{
  NodeShape,
  text_node,
  chain_node,
  tag_node,
  block_node,
  Nodes,
  no_nodes,
  node,
  Parts,
  no_parts,
  part,
}

module _ {F T B : Type 0} where
  abbrev mutual
    pub size_node : NodeShape F T B → ℕ
    size_node (text_node piece) = 0
    size_node (chain_node c) = 0
    size_node (tag_node n) = 1
    size_node (block_node n ps) = size_parts ps + 1

    pub size_nodes : Nodes F T B → ℕ
    size_nodes no_nodes = 0
    size_nodes (node n ns) = size_node n + size_nodes ns

    pub size_parts : Parts F T B → ℕ
    size_parts no_parts = 0
    size_parts (part ns ps) = size_nodes ns + size_parts ps
