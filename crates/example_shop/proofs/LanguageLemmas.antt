-- The shop's language, from its plug-ins.
use Rattle.std.proofs.Common.{◌≡◌, ap, ◌∙◌}
use Rattle.liquid_runtime.specs.meaning.Maps.{NameMap}
use Rattle.liquid_tags.specs.declared.block_plugins.Blocks.{Blocks}
use Rattle.liquid_tags.specs.declared.tag_plugins.Tags.{Tags}
use Rattle.liquid_filters.specs.declared.beside.Beside.{Beside as FilterBeside}
use Rattle.liquid_filters.specs.declared.kinds.StdKind.{StdKind}
use Rattle.liquid_filters.specs.declared.plugin.FilterPlugin.{FilterPlugin}
use Rattle.liquid_extend.specs.declared.beside.one_of.Beside.{Beside}
use Rattle.liquid_extend.specs.declared.text_blocks.plugin.TextBlockPlugin.{TextBlockPlugin}
use Rattle.example_shop.specs.declared.badge.Badge.{Badge}
use Rattle.example_shop.specs.declared.filters.Quoted.{Quoted}
use Rattle.example_shop.specs.declared.stock.Stock.{Stock}
use Rattle.example_shop.specs.declared.twice.Twice.{Twice}
use Rattle.example_shop.specs.meaning.Languages.{meaning_of, the_blocks, the_filters, the_language, the_tags}

pub shop_language : (filters : NameMap (FilterPlugin (FilterBeside StdKind Quoted))) (tags : NameMap (Beside Tags Badge))
    (blocks : NameMap (Beside Blocks (Beside Stock (TextBlockPlugin Twice))))
    → filters ≡ the_filters → tags ≡ the_tags → blocks ≡ the_blocks
    → meaning_of (record { filters = filters; tags = tags; blocks = blocks }) ≡ the_language
unfolding the_language
shop_language filters tags blocks e f g =
    ap (λ x. meaning_of (record { filters = x; tags = tags; blocks = blocks })) e
    ∙ ap (λ x. meaning_of (record { filters = the_filters; tags = x; blocks = blocks })) f
    ∙ ap (λ x. meaning_of (record { filters = the_filters; tags = the_tags; blocks = x })) g
