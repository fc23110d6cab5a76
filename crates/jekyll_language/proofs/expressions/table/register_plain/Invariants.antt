use Rattle.std.proofs.Common.{◌≡◌, map}
use Rattle.std.specs.FinMap.{values}
use Rattle.jekyll_language.specs.declared.expressions.plugin.PluginOver.TheVariants.{Plain}
use Rattle.jekyll_language.specs.meaning.expressions.Table.{registered}
use Rattle.jekyll_language.proofs.expressions.table.register_plain.Given as goal

abbrev pub invariant-loop-plugin : goal.invariant-loop-plugin
invariant-loop-plugin g l =
    registered l.filters (map Plain l.plugin-iterator) ≡ registered l.initial.filters (map Plain (values l.plain))
