use Rattle.std.proofs.Common.{◌≡◌, drop, map}
use Rattle.liquid_value.specs.meaning.Cow.{cow_view}
use Rattle.liquid_jekyll.specs.meaning.list.ItemKeys.{walked_on}
use Rattle.liquid_jekyll.proofs.list.item_keys.walk_rest.Given as goal

abbrev pub invariant-loop-name : goal.invariant-loop-name
invariant-loop-name l =
    walked_on (map (λ n. n.now) l.names) (cow_view l.initial.current) ≡ walked_on (map (λ n. n.now) (drop l.name-index l.names))
    (cow_view l.current)
