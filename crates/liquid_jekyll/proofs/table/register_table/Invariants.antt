use Rattle.std.proofs.Common.{◌≡◌, map}
use Rattle.std.specs.FinMap.{values}
use Rattle.liquid_jekyll.specs.declared.plugin.JekyllPlugin.TheVariants.{Table}
use Rattle.liquid_jekyll.specs.meaning.Table.{registered}
use Rattle.liquid_jekyll.proofs.table.register_table.Given as goal

abbrev pub invariant-loop-plugin : goal.invariant-loop-plugin
invariant-loop-plugin l =
    registered l.filters (map Table l.plugin-iterator) ≡ registered l.initial.filters (map Table (values l.table))
