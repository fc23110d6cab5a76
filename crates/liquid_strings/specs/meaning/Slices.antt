-- Parts of a sequence by places that may count from its end.
use Rattle.std.specs.Prelude.{ℕ, ℤ, pos, negsuc, suc, ◌-◌, List, [], Option}
use Rattle.std.specs.Prelude.{Some, None, chars, cond, drop, encode_utf8_all, length, nat_le, take}

-- the place at which a slice of a sequence of that size begins, if there is one; a place below 0 counts from the end
abbrev pub start_in : ℕ → ℤ → Option ℕ
start_in size (pos n) = Some n
start_in size (negsuc n) = cond (nat_le (suc n) size) (Some (size - suc n)) None

-- the greatest number of items of a slice
abbrev pub count_in : ℤ → ℕ
count_in (pos n) = n
count_in (negsuc n) = 0

-- that many items from that place on
abbrev pub sliced_at : {X : Type 0} → Option ℕ → ℕ → List X → List X
sliced_at None n xs = []
sliced_at (Some start) n xs = take n (drop start xs)

abbrev pub sliced : {X : Type 0} → ℤ → ℤ → List X → List X
sliced start count xs = sliced_at (start_in (length xs) start) (count_in count) xs

-- the same for the characters of a string
abbrev pub sliced_text : ℤ → ℤ → List ℕ → List ℕ
sliced_text start count text = encode_utf8_all (sliced start count (chars text))
