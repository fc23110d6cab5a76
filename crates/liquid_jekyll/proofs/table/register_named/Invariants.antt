use Rattle.std.proofs.Common.{◌≡◌, drop, map}
use Rattle.liquid_jekyll.specs.declared.plugin.JekyllPlugin.TheVariants.{Named}
use Rattle.liquid_jekyll.specs.meaning.Table.{registered}
use Rattle.liquid_jekyll.proofs.table.register_named.Given as goal

abbrev pub invariant-loop-kind : goal.invariant-loop-kind
invariant-loop-kind l =
    registered l.filters (map Named (drop l.kind-index l.kinds)) ≡ registered l.initial.filters (map Named l.kinds)
