-- The image of a template of `liquid_tags` in the standard language.
use Rattle.std.specs.Prelude.{map, Result, Ok, Err}
use Rattle.liquid_error.specs.meaning.Refusal.{Refusal}
use Rattle.liquid_plugins.specs.meaning.Nodes.{
  NodeShape,
  text_node,
  chain_node,
  tag_node,
  block_node,
  Nodes,
  no_nodes,
  node,
  Parts,
  no_parts,
  part,
}
use Rattle.liquid_tags.specs.declared.blocks.BlockShape.{BlockShape}
use Rattle.liquid_tags.specs.declared.blocks.BlockShape.TheVariants as library
use Rattle.liquid_tags.specs.declared.if_block.condition.ConditionShape.{ConditionShape}
use Rattle.liquid_tags.specs.declared.if_block.condition.ConditionShape.TheVariants as condition
use Rattle.liquid_tags.specs.declared.tags.TagShape.{TagShape}
use Rattle.liquid_std.specs.declared.conditions.condition.ConditionShape as standard
use Rattle.liquid_std.specs.declared.conditions.condition.Operator.TheVariants.{Compares}
use Rattle.liquid_std.specs.declared.conditions.condition.TestShape.TheVariants.{Holds, Passes}
use Rattle.liquid_std.specs.declared.conditions.equality.Equality.TheVariants.{Loose}
use Rattle.liquid_std.specs.meaning.conditions.ConditionsGiven.{of_test}
use Rattle.liquid_std.specs.declared.iteration.scalars.OverScalar.TheVariants.{Refused}
use Rattle.liquid_std.specs.meaning.iteration.OptionsGiven.{no_options}
use Rattle.liquid_std.specs.declared.blocks.StdBlockShape.{StdBlockShape}
use Rattle.liquid_std.specs.declared.blocks.StdBlockShape.TheVariants.{If, For, Raw}
use Rattle.liquid_std.specs.declared.tags.StdTagShape.{StdTagShape}
use Rattle.liquid_std.specs.declared.tags.StdTagShape.TheVariants.{Library}

-- a condition of one test
abbrev pub condition_image : ConditionShape → standard.ConditionShape
condition_image (condition.Holds e) = of_test (Holds e)
condition_image (condition.Compares l op r) = of_test (Passes l (Compares op) r)

-- a block with the same conditions, or the same series and no options, or the same text
abbrev pub block_image : BlockShape → StdBlockShape
block_image (library.If cs) = If Loose (map condition_image cs)
block_image (library.For name s) = For Refused (record { name = name; series = s; options = no_options })
block_image (library.Raw text) = Raw text

module _ {F : Type 0} where
  abbrev mutual
    pub node_image : NodeShape F (TagShape F) BlockShape → NodeShape F (StdTagShape F) StdBlockShape
    node_image (text_node text) = text_node text
    node_image (chain_node c) = chain_node c
    node_image (tag_node n) = tag_node (Library n)
    node_image (block_node b ps) = block_node (block_image b) (parts_image ps)

    pub nodes_image : Nodes F (TagShape F) BlockShape → Nodes F (StdTagShape F) StdBlockShape
    nodes_image no_nodes = no_nodes
    nodes_image (node n ns) = node (node_image n) (nodes_image ns)

    pub parts_image : Parts F (TagShape F) BlockShape → Parts F (StdTagShape F) StdBlockShape
    parts_image no_parts = no_parts
    parts_image (part ns ps) = part (nodes_image ns) (parts_image ps)

  -- what a partial is read as
  abbrev pub partial_image : Result (Nodes F (TagShape F) BlockShape) Refusal → Result (Nodes F (StdTagShape F) StdBlockShape) Refusal
  partial_image (Ok ns) = Ok (nodes_image ns)
  partial_image (Err refusal) = Err refusal
