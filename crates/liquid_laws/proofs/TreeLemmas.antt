-- The images of lists of nodes and of parts.
use Rattle.std.proofs.Common.{◌≡◌, List, [], ◌∷◌, ◌++◌, map, refl, ap, sym, ◌∙◌}
use Rattle.std.proofs.lemmas.List.{map-append}
use Rattle.liquid_plugins.specs.meaning.Nodes.{NodeShape, block_node, nodes_from, node, parts_from, part}
use Rattle.liquid_parser.specs.meaning.Reading.{block_with}
use Rattle.liquid_tags.specs.declared.blocks.BlockShape.{BlockShape}
use Rattle.liquid_tags.specs.declared.tags.TagShape.{TagShape}
use Rattle.liquid_laws.specs.meaning.superset.Images.{block_image, node_image, nodes_image, parts_image}

module _ {F : Type 0} where
  pub nodes_kept : (ns : List (NodeShape F (TagShape F) BlockShape)) → nodes_image (nodes_from ns) ≡ nodes_from (map node_image ns)
  nodes_kept [] = refl
  nodes_kept (n ∷ ns) = ap (node (node_image n)) (nodes_kept ns)

  pub parts_kept : (ps : List (List (NodeShape F (TagShape F) BlockShape)))
      → parts_image (parts_from (map nodes_from ps)) ≡ parts_from (map nodes_from (map (map node_image) ps))
  parts_kept [] = refl
  parts_kept (ns ∷ ps) =
      ap (λ m. part m (parts_image (parts_from (map nodes_from ps)))) (nodes_kept ns)
      ∙ ap (part (nodes_from (map node_image ns))) (parts_kept ps)

  -- the image of a block with these parts
  pub block_kept : (b : BlockShape) (ps : List (List (NodeShape F (TagShape F) BlockShape)))
      → node_image (block_with b ps) ≡ block_with (block_image b) (map (map node_image) ps)
  block_kept b ps = ap (block_node (block_image b)) (parts_kept ps)

  -- the image of a list with one node more
  pub added : (ns : List (NodeShape F (TagShape F) BlockShape)) (n : NodeShape F (TagShape F) BlockShape) → map node_image ns
      ++ node_image n ∷ [] ≡ map node_image (ns ++ n ∷ [])
  added ns n = sym (map-append node_image ns (n ∷ []))

  -- the images of parts with one part more
  pub parted : (ps : List (List (NodeShape F (TagShape F) BlockShape))) (ns : List (NodeShape F (TagShape F) BlockShape))
      → map (map node_image) ps ++ map node_image ns ∷ [] ≡ map (map node_image) (ps ++ ns ∷ [])
  parted ps ns = sym (map-append (map node_image) ps (ns ∷ []))
