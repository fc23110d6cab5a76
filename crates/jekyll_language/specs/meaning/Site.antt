-- Jekyll's language with Jekyll's filters.
use Rattle.std.specs.Prelude.{Option, Result}
use Rattle.liquid_dates.specs.declared.date_time.DateTime.{DateTime}
use Rattle.liquid_error.specs.meaning.Refusal.{Refusal}
use Rattle.liquid_plugins.specs.meaning.ArgumentsOf.{Arguments}
use Rattle.liquid_plugins.specs.meaning.Chain.{FilterMeaning}
use Rattle.liquid_parser.specs.meaning.Lang.{Lang}
use Rattle.liquid_parser.specs.meaning.Plugins.{registry_of}
use Rattle.jekyll_language.specs.meaning.expressions.Plugins.{OfPage, ShapeOfPage, page_calls, page_made}
use Rattle.jekyll_language.specs.meaning.expressions.Table.{page_filters}
use Rattle.jekyll_language.specs.meaning.Languages.{tags_and_blocks}
use Rattle.jekyll_language.specs.meaning.Plugins.{BlockNode, BlockPlan, TagNode}

abbrev pub SiteFilter : Type 0
SiteFilter = OfPage

abbrev pub FilterNode : Type 0
FilterNode = ShapeOfPage

-- what arguments make of a filter, and what a filter does
abbrev pub filter_made : SiteFilter → Arguments → Result FilterNode Refusal
filter_made = page_made

abbrev pub filter_calls : FilterMeaning FilterNode
filter_calls = page_calls

-- the tags, blocks and filters, for which `now` and `today` are this moment, if there is one
abbrev pub site_language : Option DateTime → Lang FilterNode (TagNode FilterNode) BlockPlan BlockNode
site_language now = tags_and_blocks (registry_of filter_made (page_filters now))
