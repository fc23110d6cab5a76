-- The plug-ins by their names, and what a language of them means.
use Rattle.std.specs.Prelude.{ℕ, List, [], ◌∷◌, None, codes, Result}
use Rattle.std.specs.FinMap.{empty}
use Rattle.liquid_error.specs.meaning.Refusal.{Refusal}
use Rattle.liquid_runtime.specs.meaning.Maps.{NameMap}
use Rattle.liquid_plugins.specs.meaning.ArgumentsOf.{Arguments}
use Rattle.liquid_parser.specs.declared.plugin.language.Language.{Language}
use Rattle.liquid_parser.specs.meaning.Handed.{Tokens}
use Rattle.liquid_parser.specs.meaning.Lang.{Block, Filters, Lang}
use Rattle.liquid_parser.specs.meaning.Plugins.{language_of}
use Rattle.liquid_tags.specs.meaning.BlockPlugins.{whole_block}
use Rattle.liquid_tags.specs.meaning.Languages.{registered}
use Rattle.liquid_tags.specs.meaning.TagPlugins.{tag_given}
use Rattle.liquid_tags.specs.declared.tag_plugins.Tags.TheVariants as tags
use Rattle.liquid_tags.specs.declared.block_plugins.Blocks.TheVariants as blocks
use Rattle.example_shop.specs.declared.filters.Quoted.{Quoted}
use Rattle.example_shop.specs.meaning.Badges.{badge_given}
use Rattle.example_shop.specs.meaning.Filters.{quoted}
use Rattle.example_shop.specs.meaning.Shapes.{ShopFilter, ShopTag, ShopPlan, ShopBlock}
use Rattle.example_shop.specs.meaning.Stocks.{stock_block}
use Rattle.example_shop.specs.meaning.Twices.{twice}
use Rattle.liquid_filters.specs.declared.beside.Beside.{Beside}
use Rattle.liquid_filters.specs.declared.kinds.StdKind.{StdKind}
use Rattle.liquid_filters.specs.declared.plugin.FilterPlugin.{FilterPlugin}
use Rattle.liquid_filters.specs.meaning.Calls.{call_made}
use Rattle.liquid_filters.specs.meaning.Registered.{filters_beside, sense_beside}
use Rattle.liquid_filters.specs.meaning.Standard.{std_sense}
use Rattle.liquid_extend.specs.declared.beside.one_of.Beside as one_of
use Rattle.liquid_extend.specs.declared.beside.one_of.Beside.TheVariants.{Library, Own}
use Rattle.liquid_extend.specs.meaning.Plugins.{block_beside, tag_beside}
use Rattle.liquid_extend.specs.declared.text_blocks.plugin.TextBlockPlugin.{TextBlockPlugin}
use Rattle.liquid_extend.specs.meaning.TextBlocks.{text_block}
use Rattle.liquid_tags.specs.declared.tag_plugins.Tags.{Tags}
use Rattle.liquid_tags.specs.declared.block_plugins.Blocks.{Blocks}
use Rattle.example_shop.specs.declared.badge.Badge.{Badge}
use Rattle.example_shop.specs.declared.stock.Stock.{Stock}
use Rattle.example_shop.specs.declared.twice.Twice.{Twice}

-- the standard filters, for which `now` and `today` are not dates, and the shop's own
abbrev pub the_filters : NameMap (FilterPlugin (Beside StdKind Quoted))
the_filters = filters_beside quoted None (record {} ∷ [])

abbrev pub the_tags : NameMap (one_of.Beside Tags Badge)
the_tags =
    registered empty
    ((codes "assign", Library tags.Assign) ∷ (codes "include", Library tags.Include) ∷ (codes "badge", Own (record {})) ∷ [])

abbrev pub the_blocks : NameMap (one_of.Beside Blocks (one_of.Beside Stock (TextBlockPlugin Twice)))
the_blocks =
    registered empty
    ((codes "if", Library blocks.If) ∷ (codes "for", Library blocks.For) ∷ (codes "stock", Own (Library (record {})))
    ∷ (codes "twice", Own (Own (record { kind = record {} }))) ∷ [])

-- what a filter makes of its arguments, a tag of its tokens, and what a block takes
abbrev pub filter_made : FilterPlugin (Beside StdKind Quoted) → Arguments → Result ShopFilter Refusal
filter_made plugin arguments = call_made (sense_beside std_sense quoted) plugin.kind arguments

abbrev pub tag_made : one_of.Beside Tags Badge → Filters ShopFilter → Tokens → Result ShopTag Refusal
tag_made = tag_beside tag_given (λ tag filters ts. badge_given ts)

abbrev pub block_taken : one_of.Beside Blocks (one_of.Beside Stock (TextBlockPlugin Twice)) → Block ShopFilter ShopPlan ShopBlock
block_taken = block_beside whole_block (block_beside (λ block. stock_block) (λ plugin. text_block twice plugin.kind))

-- what a language of such plug-ins means
abbrev pub meaning_of : Language (FilterPlugin (Beside StdKind Quoted)) (one_of.Beside Tags Badge)
    (one_of.Beside Blocks (one_of.Beside Stock (TextBlockPlugin Twice)))
    → Lang ShopFilter ShopTag ShopPlan ShopBlock
meaning_of = language_of filter_made tag_made block_taken

-- the shop's language
unfoldable pub the_language : Lang ShopFilter ShopTag ShopPlan ShopBlock
the_language = meaning_of (record { filters = the_filters; tags = the_tags; blocks = the_blocks })
