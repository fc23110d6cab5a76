use Rattle.std.proofs.Common.{◌≡◌, drop, map}
use Rattle.std.specs.List.{list_any}
use Rattle.liquid_value.specs.meaning.View.{view as tree_of}
use Rattle.liquid_jekyll.specs.meaning.list.Choosing.{is_text}
use Rattle.liquid_jekyll.proofs.list.choosing.any_has_text.Given as goal

abbrev pub invariant-loop-item : goal.invariant-loop-item
invariant-loop-item l =
    list_any (is_text l.text) (map (λ r. tree_of r.now) l.items) ≡ list_any (is_text l.text)
    (map (λ r. tree_of r.now) (drop l.item-index l.items))
