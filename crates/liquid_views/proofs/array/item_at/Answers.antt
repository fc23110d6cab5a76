use Rattle.std.proofs.Common.{w64, length, sym, ap, ◌∙◌}
use Rattle.std.specs.Prelude.{option_and_then}
use Rattle.liquid_value.specs.meaning.Place.{nth, place_at}
use Rattle.std.proofs.lemmas.Int.{to_z-of_z}
use Rattle.liquid_views.specs.meaning.Trees.{items_by}
use Rattle.liquid_views.proofs.Lists.{count_of_list, nth_of_slice, item_at_of_list}
use Rattle.liquid_views.proofs.array.item_at.Goals as goal

pub returns-in-Some : goal.returns-in-Some
returns-in-Some g c =
    let tree = g.T.ValueView.tree in
    let xs = c.args.items.now in
    nth_of_slice tree xs c.in-Some.place c.get.result c.get.ensures.lookup
    ∙ ap (option_and_then (λ place. nth place (items_by tree xs)))
    (c.in-Some.ensures ∙ ap (λ i. place_at i (length xs)) (to_z-of_z w64 c.args.index c.ranges.index))
    ∙ sym (item_at_of_list tree xs c.args.index (length xs) (sym (count_of_list tree xs)))

pub returns-in-None : goal.returns-in-None
returns-in-None g c =
    let tree = g.T.ValueView.tree in
    let xs = c.args.items.now in
    ap (option_and_then (λ place. nth place (items_by tree xs)))
    (c.in-None.ensures ∙ ap (λ i. place_at i (length xs)) (to_z-of_z w64 c.args.index c.ranges.index))
    ∙ sym (item_at_of_list tree xs c.args.index (length xs) (sym (count_of_list tree xs)))
