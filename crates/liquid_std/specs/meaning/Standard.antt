-- What templates of the standard language are rendered with, over any filters and any store.
use Rattle.std.specs.Prelude.{Option, option_map}
use Rattle.liquid_plugins.specs.meaning.Chain.{FilterMeaning}
use Rattle.liquid_template.specs.meaning.Nodes.{Setting}
use Rattle.liquid_template.specs.meaning.Partials.{Found, partial_in}
use Rattle.liquid_std.specs.meaning.marks.Held.{MarksIn}
use Rattle.liquid_std.specs.declared.tags.StdTagShape.{StdTagShape}
use Rattle.liquid_std.specs.declared.tags.StdTagProgressShape.{StdTagProgressShape}
use Rattle.liquid_std.specs.declared.blocks.StdBlockShape.{StdBlockShape}
use Rattle.liquid_std.specs.declared.blocks.StdProgressShape.{StdProgressShape}
use Rattle.liquid_std.specs.meaning.Blocks.{block_nodes}
use Rattle.liquid_std.specs.meaning.Tags.{tag_nodes}

module _ {Reg F : Type 0} (held : MarksIn Reg) (fresh : Reg) (m : FilterMeaning F) where
  -- what templates of the standard language are rendered with
  abbrev pub standard : Option (Found F (StdTagShape F) StdBlockShape)
      → Setting Reg F (StdTagShape F) StdTagProgressShape StdBlockShape StdProgressShape
  standard finds = record {
    fresh = fresh;
    filters = m;
    tags = tag_nodes held m;
    blocks = block_nodes held;
    finds = option_map partial_in finds;
  }
