-- A string before and after a mark.
use Rattle.std.specs.Prelude.{ℕ, ◌+◌, List, Option, Some, None, drop, length, take}
use Rattle.memchr.specs.Find.{first_of, matches, rmatches}

-- the text before so many bytes at a place, and what follows them, if there is a place
abbrev pub cut_at : ℕ → List ℕ → Option ℕ → List ℕ × Option (List ℕ)
cut_at len text None = (text, None)
cut_at len text (Some at) = (take at text, Some (drop (at + len) text))

-- the text before the first place of a mark, and what follows it
abbrev pub cut : List ℕ → List ℕ → List ℕ × Option (List ℕ)
cut mark text = cut_at (length mark) text (first_of (matches text mark 0))

-- the same, only if there is a place
abbrev pub parted_at : ℕ → List ℕ → Option ℕ → Option (List ℕ × List ℕ)
parted_at len text None = None
parted_at len text (Some at) = Some (take at text, drop (at + len) text)

-- the text before the last place of a mark, and what follows it
abbrev pub cut_last : List ℕ → List ℕ → Option (List ℕ × List ℕ)
cut_last mark text = parted_at (length mark) text (first_of (rmatches text mark (length text)))
