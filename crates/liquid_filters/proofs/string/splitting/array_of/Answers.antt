use Rattle.std.proofs.Common.{◌≤◌, ap, arith, length, map, ◌∙◌}
use Rattle.std.proofs.lemmas.List.{take_all}
use Rattle.liquid_value.specs.meaning.Tree.{array}
use Rattle.liquid_value.specs.meaning.View.{items_of}
use Rattle.liquid_filters.specs.meaning.string.Written.{written}
use Rattle.liquid_filters.proofs.SliceLemmas.{written_each}
use Rattle.liquid_filters.proofs.string.splitting.array_of.Goals as goal

pub returns : goal.returns
returns c =
    let all : length c.args.parts.now ≤ c.loop-part.part-index = omega arith in
    c.from.ensures
    ∙ ap (λ ts. array (items_of ts)) (c.loop-part.invariant ∙ ap (map (λ p. written p.now))
    (take_all c.loop-part.part-index c.args.parts.now all) ∙ written_each (λ p. p.now) c.args.parts.now)
