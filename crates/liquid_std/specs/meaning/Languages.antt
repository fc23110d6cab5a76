-- The tags and blocks by their names, and what a language of them means.
use Rattle.std.specs.Prelude.{[], ◌∷◌, Result}
use Rattle.std.specs.FinMap.{empty}
use Rattle.liquid_error.specs.meaning.Refusal.{Refusal}
use Rattle.liquid_runtime.specs.meaning.Maps.{NameMap}
use Rattle.liquid_plugins.specs.meaning.ArgumentsOf.{Arguments}
use Rattle.liquid_parser.specs.declared.plugin.language.Language.{Language}
use Rattle.liquid_parser.specs.meaning.Lang.{Filters, Lang}
use Rattle.liquid_parser.specs.meaning.Plugins.{language_of, registry_of}
use Rattle.liquid_tags.specs.declared.tag_plugins.Tags.TheVariants as library
use Rattle.liquid_tags.specs.meaning.Languages.{under_names}
use Rattle.liquid_std.specs.declared.conditions.equality.Equality.TheVariants.{Loose}
use Rattle.liquid_std.specs.declared.iteration.scalars.OverScalar.TheVariants.{Refused}
use Rattle.liquid_std.specs.declared.tags.StdTagShape.{StdTagShape}
use Rattle.liquid_std.specs.declared.blocks.StdBlockShape.{StdBlockShape}
use Rattle.liquid_std.specs.declared.block_plugins.StdPlanShape.{StdPlanShape}
use Rattle.liquid_std.specs.declared.tag_plugins.StdTags.{StdTags}
use Rattle.liquid_std.specs.declared.tag_plugins.StdTags.TheVariants.{Library, Decrement, Echo, Cycle}
use Rattle.liquid_std.specs.declared.block_plugins.StdBlocks.{StdBlocks}
use Rattle.liquid_std.specs.declared.block_plugins.StdBlocks.TheVariants.{If, Unless, Case, For, Tablerow, Capture, Ifchanged, Comment, Raw}
use Rattle.liquid_std.specs.meaning.TagPlugins.{tag_given, tag_name}
use Rattle.liquid_std.specs.meaning.BlockPlugins.{start_of, whole_block}

abbrev pub the_tags : NameMap StdTags
the_tags =
    under_names tag_name empty
    (Library library.Assign ∷ Library library.Increment ∷ Library library.Break ∷ Library library.Continue ∷ Library library.Include
    ∷ Library library.Render ∷ Decrement ∷ Echo ∷ Cycle ∷ [])

abbrev pub the_blocks : NameMap StdBlocks
the_blocks =
    under_names start_of empty
    (If Loose ∷ Unless Loose ∷ Case Loose ∷ For Refused ∷ Tablerow ∷ Capture ∷ Ifchanged ∷ Comment ∷ Raw ∷ [])

-- what a language of such tags and blocks means, by what its filters make of their arguments
abbrev pub meaning_of : {U F : Type 0} → (U → Arguments → Result F Refusal)
    → Language U StdTags StdBlocks → Lang F (StdTagShape F) StdPlanShape StdBlockShape
meaning_of makes = language_of makes tag_given whole_block

-- the standard language with these filters
abbrev pub tags_and_blocks : {F : Type 0} → Filters F → Lang F (StdTagShape F) StdPlanShape StdBlockShape
tags_and_blocks filters = record { filters = filters; tags = registry_of tag_given the_tags; blocks = registry_of whole_block the_blocks }
