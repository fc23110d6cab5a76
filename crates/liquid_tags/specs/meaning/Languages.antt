-- The tags and blocks by their names, and what a language of them means.
use Rattle.std.specs.Prelude.{ℕ, List, [], ◌∷◌, Result}
use Rattle.std.specs.FinMap.{empty, insert}
use Rattle.liquid_error.specs.meaning.Refusal.{Refusal}
use Rattle.liquid_runtime.specs.meaning.Maps.{NameMap}
use Rattle.liquid_plugins.specs.meaning.ArgumentsOf.{Arguments}
use Rattle.liquid_parser.specs.declared.plugin.language.Language.{Language}
use Rattle.liquid_parser.specs.meaning.Lang.{Filters, Lang}
use Rattle.liquid_parser.specs.meaning.Plugins.{language_of, registry_of}
use Rattle.liquid_tags.specs.declared.tags.TagShape.{TagShape}
use Rattle.liquid_tags.specs.declared.blocks.BlockShape.{BlockShape}
use Rattle.liquid_tags.specs.declared.block_plugins.PlanShape.{PlanShape}
use Rattle.liquid_tags.specs.declared.tag_plugins.Tags.{Tags}
use Rattle.liquid_tags.specs.declared.tag_plugins.Tags.TheVariants as tags
use Rattle.liquid_tags.specs.declared.block_plugins.Blocks.{Blocks}
use Rattle.liquid_tags.specs.declared.block_plugins.Blocks.TheVariants.{If, For, Raw}
use Rattle.liquid_tags.specs.meaning.TagPlugins.{tag_given, tag_name}
use Rattle.liquid_tags.specs.meaning.BlockPlugins.{start_of, whole_block}

-- plug-ins under their names; of two under one name the later is kept
abbrev pub registered : {P : Type 0} → NameMap P → List (List ℕ × P) → NameMap P
registered before [] = before
registered before (p ∷ ps) = registered (insert before p.0 p.1) ps

-- the same, each under the name that it returns
abbrev pub under_names : {P : Type 0} → (P → List ℕ) → NameMap P → List P → NameMap P
under_names name before [] = before
under_names name before (p ∷ ps) = under_names name (insert before (name p) p) ps

abbrev pub the_tags : NameMap Tags
the_tags = under_names tag_name empty (tags.Assign ∷ tags.Increment ∷ tags.Break ∷ tags.Continue ∷ tags.Include ∷ tags.Render ∷ [])

abbrev pub the_blocks : NameMap Blocks
the_blocks = under_names start_of empty (If ∷ For ∷ Raw ∷ [])

-- what a language of such tags and blocks means, by what its filters make from their arguments
abbrev pub meaning_of : {U F : Type 0} → (U → Arguments → Result F Refusal) → Language U Tags Blocks
    → Lang F (TagShape F) PlanShape BlockShape
meaning_of makes = language_of makes tag_given whole_block

-- the library's language with these filters
abbrev pub tags_and_blocks : {F : Type 0} → Filters F → Lang F (TagShape F) PlanShape BlockShape
tags_and_blocks filters = record { filters = filters; tags = registry_of tag_given the_tags; blocks = registry_of whole_block the_blocks }
