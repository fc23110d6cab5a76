-- What contracts see of the shop's filters, tags and blocks, and of their progresses.
use Rattle.std.specs.Prelude.{ℕ, List, Option}
use Rattle.liquid_plugins.specs.meaning.Expression.{ExpressionShape}
use Rattle.liquid_tags.specs.declared.block_plugins.PlanShape.{PlanShape}
use Rattle.liquid_tags.specs.declared.blocks.BlockShape.{BlockShape}
use Rattle.liquid_tags.specs.declared.blocks.ProgressShape.{ProgressShape}
use Rattle.liquid_tags.specs.declared.tags.TagShape.{TagShape}
use Rattle.liquid_filters.specs.declared.beside.Beside.{Beside as FilterBeside}
use Rattle.liquid_filters.specs.declared.call.CallShape.{CallShape}
use Rattle.liquid_filters.specs.declared.kinds.StdKind.{StdKind}
use Rattle.liquid_extend.specs.declared.beside.one_of.Beside.{Beside}
use Rattle.example_shop.specs.declared.filters.Quoted.{Quoted}
use Rattle.example_shop.specs.declared.twice.Twice.{Twice}

abbrev pub ShopFilter : Type 0
ShopFilter = CallShape (FilterBeside StdKind Quoted)

abbrev pub ShopTag : Type 0
ShopTag = Beside (TagShape ShopFilter) ExpressionShape

abbrev pub ShopPlan : Type 0
ShopPlan = Beside PlanShape (Beside ExpressionShape Twice)

abbrev pub ShopBlock : Type 0
ShopBlock = Beside BlockShape (Beside ExpressionShape Twice)

abbrev pub TagProgress : Type 0
TagProgress = Beside ℕ ℕ

abbrev pub BlockProgress : Type 0
BlockProgress = Beside ProgressShape (Beside ℕ (Option (List ℕ)))
