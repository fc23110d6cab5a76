-- The test plug-ins by their names.
use Rattle.std.specs.Prelude.{ℕ, List, [], ◌∷◌, codes}
use Rattle.std.specs.FinMap.{empty, insert}
use Rattle.liquid_runtime.specs.meaning.Maps.{NameMap}
use Rattle.test_plugins.specs.declared.filters.Filters.{Filters}
use Rattle.test_plugins.specs.declared.filters.Filters.TheVariants as filters
use Rattle.test_plugins.specs.declared.tag_plugins.Tags.{Tags}
use Rattle.test_plugins.specs.declared.tag_plugins.Tags.TheVariants as tags
use Rattle.test_plugins.specs.declared.tag_plugins.LeakyTags.{LeakyTags}
use Rattle.test_plugins.specs.declared.tag_plugins.LeakyTags.TheVariants as leaky
use Rattle.test_plugins.specs.declared.tag_plugins.HostileTags.{HostileTags}
use Rattle.test_plugins.specs.declared.tag_plugins.HostileTags.TheVariants as hostile
use Rattle.test_plugins.specs.declared.block_plugins.Blocks.{Blocks}
use Rattle.test_plugins.specs.declared.block_plugins.Blocks.TheVariants as blocks
use Rattle.test_plugins.specs.declared.block_plugins.HostileBlocks.{HostileBlocks}
use Rattle.test_plugins.specs.declared.block_plugins.HostileBlocks.TheVariants as hostile_block

-- plug-ins under their names; of two under one name the later is kept
abbrev pub registered : {P : Type 0} → NameMap P → List (List ℕ × P) → NameMap P
registered before [] = before
registered before (p ∷ ps) = registered (insert before p.0 p.1) ps

abbrev pub the_filters : NameMap Filters
the_filters = registered empty ((codes "append", filters.Append) ∷ (codes "fail", filters.Fail) ∷ [])

abbrev pub plain_tags : NameMap Tags
plain_tags = registered empty ((codes "set", tags.Set) ∷ (codes "inc", tags.Inc) ∷ (codes "brk", tags.Brk) ∷ [])

abbrev pub leaky_tags : NameMap LeakyTags
leaky_tags =
    registered empty
    ((codes "set", leaky.Plain tags.Set) ∷ (codes "inc", leaky.Plain tags.Inc) ∷ (codes "brk", leaky.Plain tags.Brk)
    ∷ (codes "leak", leaky.Leak) ∷ [])

abbrev pub hostile_tags : NameMap HostileTags
hostile_tags =
    registered empty
    ((codes "set", hostile.Plain tags.Set) ∷ (codes "inc", hostile.Plain tags.Inc) ∷ (codes "brk", hostile.Plain tags.Brk)
    ∷ (codes "spin", hostile.Spin) ∷ (codes "mute", hostile.Mute) ∷ [])

abbrev pub plain_blocks : NameMap Blocks
plain_blocks =
    registered empty
    ((codes "box", blocks.Box) ∷ (codes "sbox", blocks.Sbox) ∷ (codes "swap", blocks.Swap) ∷ (codes "raw", blocks.Raw)
    ∷ (codes "with", blocks.With)
    ∷ (codes "glob", blocks.Glob) ∷ [])

abbrev pub hostile_blocks : NameMap HostileBlocks
hostile_blocks =
    registered empty
    ((codes "box", hostile_block.Plain blocks.Box) ∷ (codes "sbox", hostile_block.Plain blocks.Sbox)
    ∷ (codes "swap", hostile_block.Plain blocks.Swap)
    ∷ (codes "raw", hostile_block.Plain blocks.Raw) ∷ (codes "with", hostile_block.Plain blocks.With)
    ∷ (codes "glob", hostile_block.Plain blocks.Glob)
    ∷ (codes "far", hostile_block.Far) ∷ (codes "b", hostile_block.Odd) ∷ [])
