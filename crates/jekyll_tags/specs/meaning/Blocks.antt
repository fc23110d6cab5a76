-- The names of the blocks, and what they make of their tokens and bodies.
use Rattle.std.specs.Prelude.{[], false, codes, Ok}
use Rattle.liquid_parser.specs.meaning.Lang.{Block, BlockNames}
use Rattle.liquid_tags.specs.meaning.Asked.{alone}
use Rattle.jekyll_tags.specs.declared.blocks.JekyllBlocks.{JekyllBlocks}
use Rattle.jekyll_tags.specs.declared.blocks.JekyllBlocks.TheVariants.{Highlight}
use Rattle.jekyll_tags.specs.declared.highlight.HighlightShape.{HighlightShape}
use Rattle.jekyll_tags.specs.meaning.HighlightsGiven.{highlight_given}

abbrev pub block_named : JekyllBlocks → BlockNames
block_named Highlight = record { start_name = codes "highlight"; end_name = codes "endhighlight" }

-- it has no dividers, and its body is read as a template
abbrev pub jekyll_block : {F : Type 0} → JekyllBlocks → Block F HighlightShape HighlightShape
jekyll_block b = record {
  names = block_named b;
  means = record {
    dividers = [];
    escapes = false;
    nests = false;
    begin = λ filters ts. highlight_given ts;
    divide = λ plan name ts. alone plan ts;
    finish = λ plan body. Ok plan;
  };
}
