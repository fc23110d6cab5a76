-- Paths of index pages.
use Rattle.std.specs.Prelude.{ℕ, Bool, true, List, [], ◌∷◌, ◌==◌, ◌&&◌, Option, Some, None, codes, drop, nat_eq, if◌then◌else◌}
use Rattle.std.specs.List.{starts_with}
use Rattle.std.specs.Option.{option_map_or}
use Rattle.std.specs.Str.{byte}

-- whether a line ends here
abbrev pub ends_line : List ℕ → Bool
ends_line [] = true
ends_line (b ∷ bs) = b == byte "\n"

-- the length of the name of an index page with which a string begins, if it ends a line
abbrev pub index_length : List ℕ → Option ℕ
index_length text =
    if starts_with nat_eq text (codes "/index.html") && ends_line (drop 11 text) then Some 11
    else if starts_with nat_eq text (codes "/index.htm") && ends_line (drop 10 text) then Some 10
    else None

-- the text with the first such name as a slash
abbrev pub index_stripped : List ℕ → List ℕ
index_stripped [] = []
index_stripped (b ∷ bs) =
    option_map_or (λ n. byte "/" ∷ drop n (b ∷ bs)) (index_length (b ∷ bs)) (b ∷ index_stripped bs)
