-- What templates of the library are rendered with, over any filters and any store.
use Rattle.std.specs.Prelude.{ℕ, Option, option_map}
use Rattle.liquid_plugins.specs.meaning.Chain.{FilterMeaning}
use Rattle.liquid_template.specs.meaning.Nodes.{Setting}
use Rattle.liquid_template.specs.meaning.Partials.{Found, partial_in}
use Rattle.liquid_tags.specs.declared.tags.TagShape.{TagShape}
use Rattle.liquid_tags.specs.declared.blocks.BlockShape.{BlockShape}
use Rattle.liquid_tags.specs.declared.blocks.ProgressShape.{ProgressShape}
use Rattle.liquid_tags.specs.meaning.Blocks.{block_nodes}
use Rattle.liquid_tags.specs.meaning.Tags.{tag_nodes}

module _ {Reg F : Type 0} (fresh : Reg) (m : FilterMeaning F) where
  -- what templates of the library are rendered with
  abbrev pub library : Option (Found F (TagShape F) BlockShape) → Setting Reg F (TagShape F) ℕ BlockShape ProgressShape
  library finds = record { fresh = fresh; filters = m; tags = tag_nodes m; blocks = block_nodes; finds = option_map partial_in finds }
