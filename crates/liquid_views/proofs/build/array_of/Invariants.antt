use Rattle.std.proofs.Common.{◌≡◌, map, take}
use Rattle.liquid_value.specs.meaning.View.{view}
use Rattle.liquid_views.proofs.build.array_of.Given as goal

abbrev pub invariant-loop-item : goal.invariant-loop-item
invariant-loop-item g l = map view l.array.items ≡ map g.V.ValueView.tree (take l.item-index l.items)
