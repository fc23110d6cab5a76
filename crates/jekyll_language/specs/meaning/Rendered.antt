-- What templates of Jekyll's language are rendered with, over any filters and any store.
use Rattle.std.specs.Prelude.{ℕ, List, Option, option_map}
use Rattle.liquid_extend.specs.declared.beside.one_of.Beside.{Beside}
use Rattle.liquid_extend.specs.meaning.Nodes.{nodes_beside}
use Rattle.liquid_plugins.specs.meaning.Chain.{FilterMeaning}
use Rattle.liquid_template.specs.meaning.Nodes.{Setting}
use Rattle.liquid_template.specs.meaning.Partials.{Found, partial_in}
use Rattle.liquid_std.specs.meaning.marks.Held.{MarksIn}
use Rattle.liquid_std.specs.declared.tags.StdTagProgressShape.{StdTagProgressShape}
use Rattle.liquid_std.specs.declared.blocks.StdProgressShape.{StdProgressShape}
use Rattle.liquid_std.specs.meaning.Blocks.{block_nodes}
use Rattle.liquid_std.specs.meaning.Tags.{tag_nodes}
use Rattle.jekyll_tags.specs.meaning.Highlights.{highlight_nodes}
use Rattle.jekyll_tags.specs.meaning.Inclusions.{inclusion_nodes}
use Rattle.jekyll_tags.specs.meaning.Links.{link_nodes}
use Rattle.jekyll_language.specs.meaning.Plugins.{BlockNode, TagNode}

-- how far a tag and a block are
abbrev pub TagProgress : Type 0
TagProgress = Beside StdTagProgressShape (Beside ℕ ℕ)

abbrev pub BlockProgress : Type 0
BlockProgress = Beside StdProgressShape (Option (List ℕ))

module _ {Reg F : Type 0} (held : MarksIn Reg) (fresh : Reg) (m : FilterMeaning F) where
  -- what templates of Jekyll's language are rendered with
  abbrev pub jekyll : Option (Found F (TagNode F) BlockNode) → Setting Reg F (TagNode F) TagProgress BlockNode BlockProgress
  jekyll finds = record {
    fresh = fresh;
    filters = m;
    tags = nodes_beside (tag_nodes held m) (nodes_beside (inclusion_nodes m) (link_nodes m));
    blocks = nodes_beside (block_nodes held) highlight_nodes;
    finds = option_map partial_in finds;
  }
