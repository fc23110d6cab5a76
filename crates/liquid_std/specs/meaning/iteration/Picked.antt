-- Some of the items of a series, in their order or in reverse.
use Rattle.std.specs.Prelude.{ℕ, ℤ, pos, negsuc, ◌+ℤ◌, List, Bool, true, false, drop, take, reverse, Option, None, Some}
use Rattle.liquid_value.specs.meaning.Tree.{Tree}
use Rattle.liquid_tags.specs.meaning.Items.{items_left}
use Rattle.liquid_std.specs.declared.iteration.picked.Picked.{Picked}

-- a number, or 0 if it is below 0
abbrev pub natural : ℤ → ℕ
natural (pos n) = n
natural (negsuc n) = 0

-- the items before the place that is a number of places after another, or all items if no number is given
abbrev pub limited : {A : Type 0} → ℤ → Option ℤ → List A → List A
limited offset None xs = xs
limited offset (Some limit) xs = take (natural (offset +ℤ limit)) xs

abbrev pub in_order : {A : Type 0} → Bool → List A → List A
in_order false xs = xs
in_order true xs = reverse xs

-- the items at the places from `offset` on, which count from 0, and before `offset + limit`
abbrev pub picked : {A : Type 0} → ℤ → Option ℤ → Bool → List A → List A
picked offset limit is_reversed xs = in_order is_reversed (drop (natural offset) (limited offset limit xs))

-- the items that are left
abbrev pub picked_left : Picked → List Tree
picked_left p = in_order p.is_reversed (drop p.from (take p.to (items_left p.items)))
