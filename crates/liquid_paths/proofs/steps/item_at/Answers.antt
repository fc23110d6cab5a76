use Rattle.std.proofs.Common.{w64, length, sym, ap, ◌∙◌}
use Rattle.std.specs.Prelude.{option_and_then}
use Rattle.std.proofs.lemmas.Int.{to_z-of_z}
use Rattle.liquid_value.specs.meaning.View.{items_view}
use Rattle.liquid_value.specs.meaning.Place.{nth, place_at}
use Rattle.liquid_paths.proofs.Values.{nth_of_values, item_at_of_values}
use Rattle.liquid_paths.proofs.steps.item_at.Goals as goal

pub returns-in-Some : goal.returns-in-Some
returns-in-Some c =
    let xs = c.args.items.now in
    nth_of_values xs c.in-Some.place c.get.result c.get.ensures.lookup
    ∙ ap (option_and_then (λ place. nth place (items_view xs))) (c.in-Some.ensures
    ∙ ap (λ i. place_at i (length xs)) (to_z-of_z w64 c.args.index c.ranges.index))
    ∙ sym (item_at_of_values xs c.args.index)

pub returns-in-None : goal.returns-in-None
returns-in-None c =
    let xs = c.args.items.now in
    ap (option_and_then (λ place. nth place (items_view xs))) (c.in-None.ensures
    ∙ ap (λ i. place_at i (length xs)) (to_z-of_z w64 c.args.index c.ranges.index)) ∙ sym (item_at_of_values xs c.args.index)
