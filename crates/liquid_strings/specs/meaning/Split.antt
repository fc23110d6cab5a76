-- A string split into parts.
use Rattle.std.specs.Prelude.{ℕ, List, [], ◌∷◌, ◌==◌, ◌&&◌, chars, codes}
use Rattle.std.specs.Prelude.{cond, encode_utf8, encode_utf8_all, filter, length, map, nat_lt, if◌then◌else◌}
use Rattle.std.specs.List.{slice_split}
use Rattle.std.specs.Char.{is_whitespace}
use Rattle.std.specs.Str.{bytes_eq}
use Rattle.liquid_strings.specs.meaning.Pieces.{pieces}

-- the parts between whitespace that are not empty
abbrev pub words : List ℕ → List (List ℕ)
words text = map encode_utf8_all (filter (λ part. nat_lt 0 (length part)) (slice_split is_whitespace (chars text)))

-- the pieces without empty ones at the end
abbrev pub without_empty_end : List (List ℕ) → List (List ℕ)
without_empty_end [] = []
without_empty_end (p ∷ ps) = cond (length p == 0 && length (without_empty_end ps) == 0) [] (p ∷ without_empty_end ps)

-- the words if the separator is a space, the characters if it is empty, otherwise the pieces between its places
abbrev pub split : List ℕ → List ℕ → List (List ℕ)
split separator text =
    if bytes_eq separator (codes " ") then words text
    else if length separator == 0 then map encode_utf8 (chars text)
    else without_empty_end (pieces separator text)
