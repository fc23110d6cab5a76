-- Jekyll's tags and blocks beside the standard ones: their names, and what they make of their tokens and bodies.
use Rattle.std.specs.Prelude.{ℕ, List, Result}
use Rattle.liquid_extend.specs.declared.beside.one_of.Beside.{Beside}
use Rattle.liquid_extend.specs.meaning.Plugins.{block_beside, name_beside, names_beside, tag_beside}
use Rattle.liquid_error.specs.meaning.Refusal.{Refusal}
use Rattle.liquid_parser.specs.meaning.Handed.{Tokens}
use Rattle.liquid_parser.specs.meaning.Lang.{Block, BlockNames, Filters}
use Rattle.liquid_std.specs.declared.block_plugins.StdBlocks.{StdBlocks}
use Rattle.liquid_std.specs.declared.block_plugins.StdPlanShape.{StdPlanShape}
use Rattle.liquid_std.specs.declared.blocks.StdBlockShape.{StdBlockShape}
use Rattle.liquid_std.specs.declared.tag_plugins.StdTags.{StdTags}
use Rattle.liquid_std.specs.declared.tags.StdTagShape.{StdTagShape}
use Rattle.liquid_std.specs.meaning.BlockPlugins as standard_blocks
use Rattle.liquid_std.specs.meaning.TagPlugins as standard_tags
use Rattle.jekyll_tags.specs.declared.blocks.JekyllBlocks.{JekyllBlocks}
use Rattle.jekyll_tags.specs.declared.highlight.HighlightShape.{HighlightShape}
use Rattle.jekyll_tags.specs.declared.inclusion.JekyllInclusionShape.{JekyllInclusionShape}
use Rattle.jekyll_tags.specs.declared.links.JekyllLinks.{JekyllLinks}
use Rattle.jekyll_tags.specs.declared.links.JekyllLinkShape.{JekyllLinkShape}
use Rattle.jekyll_tags.specs.declared.plugin.JekyllTags.{JekyllTags}
use Rattle.jekyll_tags.specs.meaning.Blocks as own_blocks
use Rattle.jekyll_tags.specs.meaning.Given as inclusions
use Rattle.jekyll_tags.specs.meaning.Links as links
use Rattle.jekyll_tags.specs.meaning.LinksGiven as links_given
use Rattle.jekyll_tags.specs.meaning.Named as named

-- a standard tag, or one of Jekyll's: an inclusion, or one that writes a URL
abbrev pub SiteTag : Type 0
SiteTag = Beside StdTags (Beside JekyllTags JekyllLinks)

abbrev pub SiteBlock : Type 0
SiteBlock = Beside StdBlocks JekyllBlocks

-- what these tags and blocks are read as, over filters of shape `F`
abbrev pub TagNode : Type 0 → Type 0
TagNode F = Beside (StdTagShape F) (Beside (JekyllInclusionShape F) (JekyllLinkShape F))

abbrev pub BlockPlan : Type 0
BlockPlan = Beside StdPlanShape HighlightShape

abbrev pub BlockNode : Type 0
BlockNode = Beside StdBlockShape HighlightShape

-- each is called and read as it is alone
abbrev pub tag_name : SiteTag → List ℕ
tag_name = name_beside standard_tags.tag_name (name_beside named.tag_name links.link_name)

abbrev pub block_names : SiteBlock → BlockNames
block_names = names_beside standard_blocks.names_told own_blocks.block_named

abbrev pub start_of : SiteBlock → List ℕ
start_of b = (block_names b).start_name

abbrev pub tag_given : {F : Type 0} → SiteTag → Filters F → Tokens → Result (TagNode F) Refusal
tag_given = tag_beside standard_tags.tag_given (tag_beside inclusions.tag_given links_given.link_given)

abbrev pub whole_block : {F : Type 0} → SiteBlock → Block F BlockPlan BlockNode
whole_block = block_beside standard_blocks.whole_block own_blocks.jekyll_block
