-- HTML without its tags.
use Rattle.std.specs.Prelude.{ℕ, zero, suc, ◌+◌, ◌-◌, List, [], ◌∷◌, ◌++◌}
use Rattle.std.specs.Prelude.{Option, Some, None, codes, drop, length, nat_eq, option_map, if◌then◌else◌}
use Rattle.std.specs.List.{starts_with}
use Rattle.memchr.specs.Find.{first_of, matches}

-- the length of the part with which a string begins: an opener, and everything up to the first closer after it and that
-- closer
abbrev pub part_len : List ℕ → List ℕ → List ℕ → Option ℕ
part_len opener closer text =
    if starts_with nat_eq text opener
    then option_map (λ at. length opener + at + length closer) (first_of (matches (drop (length opener) text) closer 0))
    else None

-- the first of two, if there is one
abbrev pub first_some : Option ℕ → Option ℕ → Option ℕ
first_some None other = other
first_some (Some n) other = Some n

-- the same for the first of these openers and closers that has one
abbrev pub first_part : List (List ℕ × List ℕ) → List ℕ → Option ℕ
first_part [] text = None
first_part (kind ∷ kinds) text = first_some (part_len kind.0 kind.1 text) (first_part kinds text)

-- a byte that begins no part
abbrev pub byte_kept : Option ℕ → ℕ → List ℕ
byte_kept None b = b ∷ []
byte_kept (Some n) b = []

-- the number of bytes of a part after its first
abbrev pub then_passed : Option ℕ → ℕ
then_passed None = 0
then_passed (Some n) = n - 1

-- after that many bytes that are left out, the string without its parts of these kinds, from left to right
abbrev pub without_after : List (List ℕ × List ℕ) → ℕ → List ℕ → List ℕ
without_after kinds n [] = []
without_after kinds zero (b ∷ bs) =
    byte_kept (first_part kinds (b ∷ bs)) b ++ without_after kinds (then_passed (first_part kinds (b ∷ bs))) bs
without_after kinds (suc n) (b ∷ bs) = without_after kinds n bs

-- the string without its parts of these kinds
abbrev pub without : List (List ℕ × List ℕ) → List ℕ → List ℕ
without kinds text = without_after kinds 0 text

-- scripts, comments and styles
abbrev pub blocks : List (List ℕ × List ℕ)
blocks = (codes "<script", codes "</script>") ∷ (codes "<!--", codes "-->") ∷ (codes "<style", codes "</style>") ∷ []

-- tags
abbrev pub tags : List (List ℕ × List ℕ)
tags = (codes "<", codes ">") ∷ []

-- the string without blocks, and then without tags
abbrev pub stripped : List ℕ → List ℕ
stripped text = without tags (without blocks text)
