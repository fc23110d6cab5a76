-- The tags and blocks by their names, and what a language of them means.
use Rattle.std.specs.Prelude.{List, [], ◌∷◌, Result, map}
use Rattle.std.specs.FinMap.{empty}
use Rattle.liquid_extend.specs.declared.beside.one_of.Beside.TheVariants.{Library, Own}
use Rattle.liquid_error.specs.meaning.Refusal.{Refusal}
use Rattle.liquid_runtime.specs.meaning.Maps.{NameMap}
use Rattle.liquid_plugins.specs.meaning.ArgumentsOf.{Arguments}
use Rattle.liquid_parser.specs.declared.plugin.language.Language.{Language}
use Rattle.liquid_parser.specs.meaning.Lang.{Filters, Lang}
use Rattle.liquid_parser.specs.meaning.Plugins.{language_of, registry_of}
use Rattle.liquid_tags.specs.declared.tag_plugins.Tags.TheVariants as library
use Rattle.liquid_tags.specs.meaning.Languages.{under_names}
use Rattle.liquid_std.specs.declared.conditions.equality.Equality.TheVariants.{Same}
use Rattle.liquid_std.specs.declared.iteration.scalars.OverScalar.TheVariants.{TextItself}
use Rattle.liquid_std.specs.declared.block_plugins.StdBlocks.TheVariants as block
use Rattle.liquid_std.specs.declared.tag_plugins.StdTags.TheVariants as standard
use Rattle.jekyll_tags.specs.declared.blocks.JekyllBlocks.TheVariants.{Highlight}
use Rattle.jekyll_tags.specs.declared.links.JekyllLinks.TheVariants.{FeedMeta, Link, PostUrl}
use Rattle.jekyll_tags.specs.declared.plugin.JekyllTags.TheVariants.{Include, IncludeCached, IncludeRelative, Seo}
use Rattle.jekyll_language.specs.meaning.Plugins as plugin
use Rattle.jekyll_language.specs.meaning.Plugins.{BlockNode, BlockPlan, SiteBlock, SiteTag, TagNode}

-- the standard tags without `include`
abbrev pub standard_tags : List SiteTag
standard_tags =
    map (λ tag. Library tag)
    (standard.Library library.Assign ∷ standard.Library library.Increment ∷ standard.Library library.Break
    ∷ standard.Library library.Continue ∷ standard.Library library.Render ∷ standard.Decrement ∷ standard.Echo ∷ standard.Cycle ∷ [])

-- Jekyll's tags
abbrev pub own_tags : List SiteTag
own_tags =
    Own (Library Include) ∷ Own (Library IncludeCached) ∷ Own (Library IncludeRelative) ∷ Own (Library Seo)
    ∷ Own (Own Link) ∷ Own (Own PostUrl) ∷ Own (Own FeedMeta) ∷ []

abbrev pub the_tags : NameMap SiteTag
the_tags = under_names plugin.tag_name (under_names plugin.tag_name empty standard_tags) own_tags

-- in conditions a value equals only the same one, and a loop over a text goes over the text itself
abbrev pub the_blocks : NameMap SiteBlock
the_blocks =
    under_names plugin.start_of empty
    (Library (block.If Same) ∷ Library (block.Unless Same) ∷ Library (block.Case Same) ∷ Library (block.For TextItself)
    ∷ Library block.Tablerow ∷ Library block.Capture ∷ Library block.Ifchanged ∷ Library block.Comment ∷ Library block.Raw ∷ Own Highlight
    ∷ [])

-- what a language of such tags and blocks means, by what its filters make of their arguments
abbrev pub meaning_of : {U F : Type 0} → (U → Arguments → Result F Refusal)
    → Language U SiteTag SiteBlock → Lang F (TagNode F) BlockPlan BlockNode
meaning_of makes = language_of makes plugin.tag_given plugin.whole_block

-- Jekyll's language with these filters
abbrev pub tags_and_blocks : {F : Type 0} → Filters F → Lang F (TagNode F) BlockPlan BlockNode
tags_and_blocks filters = record {
  filters = filters;
  tags = registry_of plugin.tag_given the_tags;
  blocks = registry_of plugin.whole_block the_blocks;
}
