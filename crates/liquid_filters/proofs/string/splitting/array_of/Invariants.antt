use Rattle.std.proofs.Common.{◌≡◌, map, take}
use Rattle.liquid_value.specs.meaning.View.{view}
use Rattle.liquid_filters.specs.meaning.string.Written.{written}
use Rattle.liquid_filters.proofs.string.splitting.array_of.Given as goal

abbrev pub invariant-loop-part : goal.invariant-loop-part
invariant-loop-part l = map view l.items.items ≡ map (λ p. written p.now) (take l.part-index l.parts)
