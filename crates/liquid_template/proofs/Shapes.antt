-- The shapes of nodes, of a list's end, and of parts, and how many nodes they have.
use Rattle.std.proofs.Common.{
  ◌≡◌,
  ℕ,
  zero,
  suc,
  ◌+◌,
  ◌<◌,
  ◌≤◌,
  List,
  [],
  ◌∷◌,
  length,
  get_or,
  drop,
  map,
  refl,
  sym,
  ap,
  ◌∙◌,
  arith,
  add-one,
  drop-cons,
  string_bytes,
}
use Rattle.std.specs.declared.alloc.Global.{Global}
use Rattle.std.specs.declared.vec.Vec.{Vec}
use Rattle.std.specs.declared.string.String.{String}
use Rattle.liquid_plugins.specs.declared.expression.FilterChain.{FilterChain}
use Rattle.liquid_plugins.specs.meaning.ExpressionOf.{chain_of}
use Rattle.liquid_plugins.specs.ArrayString.{ArrayString}
use Rattle.liquid_plugins.specs.declared.tree.Node.{Node, Text, Brief, Name, Chain, Tag, Block}
use Rattle.liquid_plugins.specs.declared.tree.Node.TheOpen as layer
use Rattle.liquid_plugins.specs.declared.tree.Node.TheVariants.{rolls-Text, rolls-Brief, rolls-Name, rolls-Chain, rolls-Tag, rolls-Block}
use Rattle.liquid_plugins.specs.declared.tree.Node.TheFolds.{fold-roll-Node, fold-Node}
use Rattle.liquid_plugins.specs.meaning.Nodes.{
  NodeShape,
  text_node,
  chain_node,
  tag_node,
  block_node,
  no_nodes,
  node,
  part,
  nodes_from,
  parts_from,
}
use Rattle.liquid_plugins.specs.meaning.NodesOf.{name_chain, node_step, node_of, nodes_of}
use Rattle.liquid_plugins.specs.meaning.Size.{size_node, size_nodes, size_parts}
use Rattle.liquid_template.specs.steps.PartsOf.{parts_of}

module _ {X N K F T B : Type 0} (f : X → F) (t : N → T) (b : K → B) where
  pub nodes_drop : (ns : List (Node X N K)) (i : ℕ) (n : Node X N K) → i < length ns → n ≡ get_or ns i n
      → nodes_of f t b (drop i ns) ≡ node (node_of f t b n) (nodes_of f t b (drop (i + 1) ns))
  nodes_drop ns i n h e =
      ap (nodes_of f t b) (drop-cons ns i n h) ∙ rw add-one (ap (λ x. node (node_of f t b x) (nodes_of f t b (drop (suc i) ns))) (sym e))

  pub nodes_end : (ns : List (Node X N K)) (i : ℕ) → length ns ≤ i → nodes_of f t b (drop i ns) ≡ no_nodes
  nodes_end [] zero h = refl
  nodes_end [] (suc i) h = refl
  nodes_end (n ∷ ns) zero h = absurd (omega arith)
  nodes_end (n ∷ ns) (suc i) h = nodes_end ns i (omega arith)

  size_drop : (ns : List (Node X N K)) (i : ℕ) → size_nodes (nodes_of f t b (drop i ns)) ≤ size_nodes (nodes_of f t b ns)
  size_drop [] zero = omega arith
  size_drop [] (suc i) = omega arith
  size_drop (n ∷ ns) zero = omega arith
  size_drop (n ∷ ns) (suc i) = omega (arith, size_drop ns i)

  pub size_member : (ns : List (Node X N K)) (i : ℕ) (n : Node X N K) → i < length ns → n ≡ get_or ns i n
      → size_node (node_of f t b n) ≤ size_nodes (nodes_of f t b ns)
  size_member ns i n h e = omega (arith, size_drop ns i, ap size_nodes (nodes_drop ns i n h e))

  pub size_part : (vs : List (Vec (Node X N K) Global)) (k : ℕ) (x : Vec (Node X N K) Global) → k < length vs → x ≡ get_or vs k x
      → size_nodes (nodes_of f t b x.items) ≤ size_parts (parts_of f t b vs)
  size_part [] k x h e = absurd (omega arith)
  size_part (v ∷ vs) zero x h e =
      let s : size_nodes (nodes_of f t b x.items) ≡ size_nodes (nodes_of f t b v.items) = ap (λ y. size_nodes (nodes_of f t b y.items)) e in
      omega arith
  size_part (v ∷ vs) (suc k) x h e = omega (arith, size_part vs k x (omega arith) e)

  parts_map : (vs : List (Vec (Node X N K) Global)) (g : Vec (Node X N K) Global → Vec (NodeShape F T B) Global)
      → ((v : Vec (Node X N K) Global) → nodes_from (g v).items ≡ nodes_of f t b v.items)
      → parts_from (map (λ ns. nodes_from ns.items) (map g vs)) ≡ parts_of f t b vs
  parts_map [] g h = refl
  parts_map (v ∷ vs) g h =
      ap (λ ns. part ns (parts_from (map (λ ms. nodes_from ms.items) (map g vs)))) (h v)
      ∙ ap (part (nodes_of f t b v.items)) (parts_map vs g h)

  pub node_text : (s : String Global) → node_of f t b (Text s) ≡ text_node (string_bytes s)
  unfolding node_of
  node_text s =
      ap (fold-Node X N K (NodeShape F T B) (node_step f t b)) (sym (rolls-Text {X1 = X} {X2 = N} {X3 = K} s))
      ∙ fold-roll-Node X N K (NodeShape F T B) (node_step f t b) (layer.Text s)

  pub node_brief : (s : ArrayString) → node_of f t b (Brief s) ≡ text_node s.bytes
  unfolding node_of
  node_brief s =
      ap (fold-Node X N K (NodeShape F T B) (node_step f t b)) (sym (rolls-Brief {X1 = X} {X2 = N} {X3 = K} s))
      ∙ fold-roll-Node X N K (NodeShape F T B) (node_step f t b) (layer.Brief s)

  pub node_name : (left : ℕ) (s : ArrayString) → node_of f t b (Name left s) ≡ chain_node (name_chain s.bytes)
  unfolding node_of
  node_name left s =
      ap (fold-Node X N K (NodeShape F T B) (node_step f t b)) (sym (rolls-Name {X1 = X} {X2 = N} {X3 = K} left s))
      ∙ fold-roll-Node X N K (NodeShape F T B) (node_step f t b) (layer.Name left s)

  pub node_chain : (left : ℕ) (c : FilterChain X) → node_of f t b (Chain left c) ≡ chain_node (chain_of f c)
  unfolding node_of
  node_chain left c =
      ap (fold-Node X N K (NodeShape F T B) (node_step f t b)) (sym (rolls-Chain {X1 = X} {X2 = N} {X3 = K} left c))
      ∙ fold-roll-Node X N K (NodeShape F T B) (node_step f t b) (layer.Chain left c)

  pub node_tag : (left : ℕ) (n : N) → node_of f t b (Tag left n) ≡ tag_node (t n)
  unfolding node_of
  node_tag left n =
      ap (fold-Node X N K (NodeShape F T B) (node_step f t b)) (sym (rolls-Tag {X1 = X} {X2 = N} {X3 = K} left n))
      ∙ fold-roll-Node X N K (NodeShape F T B) (node_step f t b) (layer.Tag left n)

  pub node_block : (left : ℕ) (k : K) (ps : Vec (Vec (Node X N K) Global) Global)
      → node_of f t b (Block left k ps) ≡ block_node (b k) (parts_of f t b ps.items)
  unfolding node_of
  node_block left k ps =
      ap (fold-Node X N K (NodeShape F T B) (node_step f t b)) (sym (rolls-Block {X1 = X} {X2 = N} {X3 = K} left k ps))
      ∙ fold-roll-Node X N K (NodeShape F T B) (node_step f t b) (layer.Block left k ps)
      ∙ ap (block_node (b k)) (parts_map ps.items _ (λ v. refl))
