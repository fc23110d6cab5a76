-- A block that takes its body as a text, in which nested starts have their own ends.
use Rattle.std.specs.Prelude.{true}
use Rattle.liquid_parser.specs.meaning.Lang.{Block}
use Rattle.test_plugins.specs.meaning.BlockPlugins.{block_meaning, names_told}
use Rattle.test_plugins.specs.declared.block_plugins.Blocks.TheVariants as blocks
use Rattle.test_plugins.specs.declared.blocks.BlockShape.{BlockShape}

abbrev pub nested_block : {F : Type 0} → Block F BlockShape BlockShape
nested_block = record { names = names_told blocks.Raw; means = record (block_meaning blocks.Raw) { nests = true } }
