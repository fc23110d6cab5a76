use Rattle.std.proofs.Common.{◌≡◌, drop, map}
use Rattle.liquid_tags.specs.meaning.Conditions.{chosen, condition_of}
use Rattle.liquid_tags.proofs.if_block.condition.choose_part.Given as goal

abbrev pub invariant-loop-condition : goal.invariant-loop-condition
invariant-loop-condition g l =
    let v = g.R.Runtime.view l.runtime in
    (l.place ≡ l.condition-index) × (chosen v 0 (map condition_of l.conditions) ≡ chosen v l.place
    (map condition_of (drop l.condition-index l.conditions)))
