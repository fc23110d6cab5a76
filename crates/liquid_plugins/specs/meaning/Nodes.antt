-- The nodes of a template as plain data: the result of parsing, and what a run goes over.
use Rattle.std.specs.Prelude.{ℕ, List, [], ◌∷◌}
use Rattle.liquid_plugins.specs.meaning.Chain.{ChainShape}

-- for the shapes F of filters, T of tag nodes and B of block nodes: a text, a chain, a tag's node, or a block's node
-- with its parts, each of them a list of nodes
mutual
  pub data NodeShape (F T B : Type 0) : Type 0 where
    text_node : List ℕ → NodeShape F T B
    chain_node : ChainShape F → NodeShape F T B
    tag_node : T → NodeShape F T B
    block_node : B → Parts F T B → NodeShape F T B

  pub data Nodes (F T B : Type 0) : Type 0 where
    no_nodes : Nodes F T B
    node : NodeShape F T B → Nodes F T B → Nodes F T B

  pub data Parts (F T B : Type 0) : Type 0 where
    no_parts : Parts F T B
    part : Nodes F T B → Parts F T B → Parts F T B

module _ {F T B : Type 0} where
  -- nodes and parts, from lists
  abbrev pub nodes_from : List (NodeShape F T B) → Nodes F T B
  nodes_from [] = no_nodes
  nodes_from (n ∷ ns) = node n (nodes_from ns)

  abbrev pub parts_from : List (Nodes F T B) → Parts F T B
  parts_from [] = no_parts
  parts_from (ns ∷ ps) = part ns (parts_from ps)
