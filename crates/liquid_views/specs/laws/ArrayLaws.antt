-- Laws of the indexes of an array.
use Rattle.std.specs.Prelude.{◌≡◌, ℤ, is_some}
use Rattle.liquid_value.specs.meaning.Members.{item_count}
use Rattle.liquid_value.specs.meaning.Tree.{Items}
use Rattle.liquid_value.specs.meaning.Place.{place_at, item_at}

-- an index is known exactly if there is an item at it
abbrev pub ContainsKeyWhereGet : Type 0
ContainsKeyWhereGet = (index : ℤ) (ts : Items) → is_some (place_at index (item_count ts)) ≡ is_some (item_at index ts)
