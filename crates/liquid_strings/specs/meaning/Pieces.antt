-- The pieces of a string.
use Rattle.std.specs.Prelude.{ℕ, ◌+◌, List, [], ◌∷◌, ◌++◌, chars, drop, encode_utf8, length, map, slice_range}
use Rattle.memchr.specs.Find.{matches}

-- the pieces of a string from a place on: what is between these places of something that many bytes long
abbrev pub pieces_between : ℕ → List ℕ → ℕ → List ℕ → List (List ℕ)
pieces_between len text from [] = drop from text ∷ []
pieces_between len text from (at ∷ places) = slice_range text from at ∷ pieces_between len text (at + len) places

-- the pieces between the places of a search string, from left to right and without overlap;
-- an empty one has a place before each character and at the end
abbrev pub pieces : List ℕ → List ℕ → List (List ℕ)
pieces [] text = [] ∷ (map encode_utf8 (chars text) ++ ([] ∷ []))
pieces (b ∷ bs) text = pieces_between (length (b ∷ bs)) text 0 (matches text (b ∷ bs) 0)
