-- The standard tags and blocks with a host's own.
use Rattle.std.specs.Prelude.{ℕ, List, [], ◌∷◌, map}
use Rattle.std.specs.FinMap.{empty}
use Rattle.liquid_extend.specs.declared.beside.one_of.Beside.{Beside}
use Rattle.liquid_extend.specs.declared.beside.one_of.Beside.TheVariants.{Library, Own}
use Rattle.liquid_runtime.specs.meaning.Maps.{NameMap}
use Rattle.liquid_parser.specs.meaning.Lang.{BlockNames}
use Rattle.liquid_tags.specs.declared.tag_plugins.Tags.TheVariants.{Assign, Increment, Break, Continue, Include, Render}
use Rattle.liquid_tags.specs.meaning.Languages.{under_names}
use Rattle.liquid_std.specs.declared.conditions.equality.Equality.TheVariants.{Loose}
use Rattle.liquid_std.specs.declared.iteration.scalars.OverScalar.TheVariants.{Refused}
use Rattle.liquid_std.specs.declared.block_plugins.StdBlocks.{StdBlocks}
use Rattle.liquid_std.specs.declared.block_plugins.StdBlocks.TheVariants as block
use Rattle.liquid_std.specs.declared.tag_plugins.StdTags.{StdTags}
use Rattle.liquid_std.specs.declared.tag_plugins.StdTags.TheVariants as tag
use Rattle.liquid_std.specs.meaning.BlockPlugins.{start_of}
use Rattle.liquid_std.specs.meaning.TagPlugins.{tag_name}

-- the names of tags and of blocks, a standard one's and a host's own
abbrev pub own_tag : {O : Type 0} → (O → List ℕ) → Beside StdTags O → List ℕ
own_tag name (Library t) = tag_name t
own_tag name (Own t) = name t

abbrev pub own_start : {B : Type 0} → (B → BlockNames) → Beside StdBlocks B → List ℕ
own_start names (Library b) = start_of b
own_start names (Own b) = (names b).start_name

abbrev pub standard_tags : List StdTags
standard_tags =
    tag.Library Assign ∷ tag.Library Increment ∷ tag.Library Break ∷ tag.Library Continue ∷ tag.Library Include ∷ tag.Library Render
    ∷ tag.Decrement ∷ tag.Echo ∷ tag.Cycle ∷ []

abbrev pub standard_blocks : List StdBlocks
standard_blocks =
    block.If Loose ∷ block.Unless Loose ∷ block.Case Loose ∷ block.For Refused ∷ block.Tablerow ∷ block.Capture ∷ block.Ifchanged
    ∷ block.Comment ∷ block.Raw ∷ []

-- the standard tags and these, each under its name; of two with one name the later is kept
abbrev pub tags_beside : {O : Type 0} → (O → List ℕ) → List O → NameMap (Beside StdTags O)
tags_beside name own = under_names (own_tag name) (under_names (own_tag name) empty (map Library standard_tags)) (map Own own)

-- the standard blocks and these, each under the name of its start tag
abbrev pub blocks_beside : {B : Type 0} → (B → BlockNames) → List B → NameMap (Beside StdBlocks B)
blocks_beside names own = under_names (own_start names) (under_names (own_start names) empty (map Library standard_blocks)) (map Own own)
