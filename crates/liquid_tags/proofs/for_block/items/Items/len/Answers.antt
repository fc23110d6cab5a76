use Rattle.liquid_tags.proofs.LoopItems.{counted_size}
use Rattle.liquid_tags.proofs.for_block.items.Items.len.Goals as goal

pub returns-in-Counted : goal.returns-in-Counted
returns-in-Counted c = rw c.in-Counted.is (counted_size c.in-Counted.numbers.next c.in-Counted.numbers.size)
