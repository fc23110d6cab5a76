-- The library of `liquid_tags`, except that a partial that `render` calls is isolated, and not sandboxed.
use Rattle.std.specs.Prelude.{ℕ, Option, option_map}
use Rattle.liquid_plugins.specs.meaning.Chain.{FilterMeaning}
use Rattle.liquid_plugins.specs.meaning.Turns.{NodeMeaning}
use Rattle.liquid_template.specs.meaning.Nodes.{Setting}
use Rattle.liquid_template.specs.meaning.Partials.{Found, partial_in}
use Rattle.liquid_tags.specs.declared.blocks.BlockShape.{BlockShape}
use Rattle.liquid_tags.specs.declared.blocks.ProgressShape.{ProgressShape}
use Rattle.liquid_tags.specs.declared.tags.TagShape.{TagShape}
use Rattle.liquid_tags.specs.meaning.Blocks.{block_nodes}
use Rattle.liquid_tags.specs.meaning.Tags.{tag_nodes}
use Rattle.liquid_std.specs.meaning.Isolated.{library_turn}

-- what the tags mean
abbrev pub isolating_tags : {F Reg : Type 0} → FilterMeaning F → NodeMeaning (TagShape F) ℕ Reg
isolating_tags m = record (tag_nodes m) { takes = λ n p v. library_turn ((tag_nodes m).takes n p v) }

module _ {Reg F : Type 0} (fresh : Reg) (m : FilterMeaning F) where
  -- what templates are rendered with
  abbrev pub isolating : Option (Found F (TagShape F) BlockShape) → Setting Reg F (TagShape F) ℕ BlockShape ProgressShape
  isolating finds = record {
    fresh = fresh;
    filters = m;
    tags = isolating_tags m;
    blocks = block_nodes;
    finds = option_map partial_in finds;
  }
