-- The items that a loop with options goes over.
use Rattle.std.specs.Prelude.{suc, ◌-◌, ℤ, pos, negsuc, List, [], Option, None, Some, drop, take}

-- the items after the first `offset` ones, and at most `limit` of them. An `offset` below 0 leaves no item out, and each
-- place that it is below 0 counts for the limit; a limit below 0 leaves no item
abbrev pub chosen : {A : Type 0} → ℤ → Option ℤ → List A → List A
chosen (pos offset) None xs = drop offset xs
chosen (pos offset) (Some (pos limit)) xs = take limit (drop offset xs)
chosen (pos offset) (Some (negsuc l)) xs = []
chosen (negsuc n) None xs = xs
chosen (negsuc n) (Some (pos limit)) xs = take (limit - suc n) xs
chosen (negsuc n) (Some (negsuc l)) xs = []
