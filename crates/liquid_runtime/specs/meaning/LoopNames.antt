-- The names of a loop's turn: the item under the loop's name, and what `forloop` says.
use Rattle.std.specs.Prelude.{ℕ, ◌+◌, ◌-◌, ◌==◌, List, codes, pos, get_or, string_bytes}
use Rattle.std.specs.FinMap.{empty, insert}
use Rattle.liquid_scalar.specs.meaning.Scalar.{integer, boolean}
use Rattle.liquid_value.specs.meaning.Tree.{Tree, scalar, object, Members, no_members, member}
use Rattle.liquid_value.specs.meaning.View.{view}
use Rattle.liquid_runtime.specs.meaning.Maps.{Names}
use Rattle.liquid_runtime.specs.declared.loop_item.LoopItem.{LoopItem}
use Rattle.liquid_runtime.specs.declared.loop_item.LoopItem.TheVariants as item
use Rattle.liquid_runtime.specs.declared.listed.Listed.{Listed}
use Rattle.liquid_value.specs.declared.value.Value.TheVariants as Value
use Rattle.liquid_runtime.specs.declared.loop_frame.LoopFrame.{LoopFrame}
use Rattle.liquid_runtime.specs.declared.loop_frame.Seen.{Seen}
use Rattle.liquid_runtime.specs.declared.loop_frame.Seen.TheVariants.{Lent, Loop}

-- a count as a value
abbrev pub place_tree : ℕ → Tree
place_tree n = scalar (integer (pos n))

-- the members of `forloop` for the item at a place, where places count from 0
abbrev pub forloop_members : ℕ → ℕ → Members
forloop_members place size =
    member (codes "first") (scalar (boolean (place == 0))) (
    member (codes "index") (place_tree (place + 1)) (
    member (codes "index0") (place_tree place) (
    member (codes "last") (scalar (boolean (place + 1 == size))) (
    member (codes "length") (place_tree size) (
    member (codes "rindex") (place_tree (size - place)) (
    member (codes "rindex0") (place_tree (size - (place + 1))) no_members))))))

abbrev pub forloop : ℕ → ℕ → Tree
forloop place size = object (forloop_members place size)

-- the names of a turn: `forloop`, and the loop's own name, which wins
abbrev pub names_of_item : List ℕ → Tree → Tree → Names
names_of_item name loop t = insert (insert empty (codes "forloop") loop) name t

-- the item
abbrev pub listed_tree : Listed → Tree
listed_tree l = view (get_or l.array.value.items l.place Value.Nil)

abbrev pub item_tree : LoopItem → Tree
item_tree (item.Listed listed) = listed_tree listed
item_tree (item.Own value) = view value

-- the names of a loop's frame
abbrev pub loop_names : LoopFrame → Names
loop_names l = names_of_item (string_bytes l.name) (forloop l.counts.place l.counts.size) (item_tree l.item)

-- what was found under a name
abbrev pub seen_tree : Seen → Tree
seen_tree (Lent value) = view value.now
seen_tree (Loop counts) = forloop counts.place counts.size
