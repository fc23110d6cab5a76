use Rattle.std.proofs.Common.{rules, arith}
use Rattle.std.specs.Prelude.{◌≡◌, ◌<◌, ◌-◌, true, min, length, refl}
use Rattle.liquid_tags.specs.meaning.Items.{items_left}
use Rattle.liquid_std.proofs.PickedLemmas.{backward_after}
use Rattle.liquid_std.proofs.iteration.picked.Picked.take_first.Goals as goal

pub returns-in_ok-item-clause-following : goal.returns-in_ok-item-clause-following
returns-in_ok-item-clause-following c =
    let rev : c.args.self.now.is_reversed ≡ true = search rules in
    let ends : c.min-end.result ≡ min c.args.self.now.to (length (items_left c.args.self.now.items)) = search rules in
    let below : c.args.self.now.from < c.min-end.result = grind arith in
    backward_after c.args.self.now.from c.args.self.now.to c.min-end.result (c.min-end.result - 1) c.args.self.now.is_reversed
    (items_left c.args.self.now.items) rev ends below refl
