-- The plain language of the test plug-ins, and what its templates are rendered with.
use Rattle.std.specs.Prelude.{ℕ, List, Option, None, Result}
use Rattle.liquid_error.specs.meaning.Refusal.{Refusal}
use Rattle.liquid_plugins.specs.meaning.Nodes.{NodeShape}
use Rattle.liquid_parser.specs.declared.plugin.language.Language.{Language}
use Rattle.liquid_parser.specs.meaning.Lang.{Lang}
use Rattle.liquid_parser.specs.meaning.Plugins.{language_of}
use Rattle.liquid_template.specs.meaning.Nodes.{Setting}
use Rattle.liquid_template.specs.meaning.Runs.{setting}
use Rattle.test_plugins.specs.declared.filters.AnyShape.{AnyShape}
use Rattle.test_plugins.specs.declared.filters.Filters.{Filters}
use Rattle.test_plugins.specs.declared.tag_plugins.Tags.{Tags}
use Rattle.test_plugins.specs.declared.tags.TagShape.{TagShape}
use Rattle.test_plugins.specs.declared.block_plugins.Blocks.{Blocks}
use Rattle.test_plugins.specs.declared.blocks.BlockShape.{BlockShape}
use Rattle.test_plugins.specs.declared.blocks.Stage.{Stage}
use Rattle.test_plugins.specs.meaning.Filters.{any_filters, any_made}
use Rattle.test_plugins.specs.meaning.Tags.{tag_nodes}
use Rattle.test_plugins.specs.meaning.TagPlugins.{tag_given}
use Rattle.test_plugins.specs.meaning.Blocks.{block_nodes}
use Rattle.test_plugins.specs.meaning.BlockPlugins.{whole_block}
use Rattle.test_plugins.specs.meaning.Languages.{the_filters, plain_tags, plain_blocks}

-- what a language of these plug-ins means
abbrev pub meaning_of : Language Filters Tags Blocks → Lang AnyShape TagShape BlockShape BlockShape
meaning_of = language_of any_made (λ tag filters ts. tag_given tag ts) whole_block

-- the plain language
abbrev pub program_language : Lang AnyShape TagShape BlockShape BlockShape
program_language = meaning_of (record { filters = the_filters; tags = plain_tags; blocks = plain_blocks })

-- the nodes of its templates
abbrev pub ProgramNode : Type 0
ProgramNode = NodeShape AnyShape TagShape BlockShape
