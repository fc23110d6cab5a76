-- Strings with parts of them replaced.
use Rattle.std.specs.Prelude.{ℕ, ◌+◌, List, ◌++◌, Option, Some, None, codes, drop, length, take}
use Rattle.std.specs.List.{join_by}
use Rattle.memchr.specs.Find.{first_of, matches, rmatches}
use Rattle.liquid_strings.specs.meaning.Pieces.{pieces}

-- the string with each place of a search string replaced
abbrev pub replaced : List ℕ → List ℕ → List ℕ → List ℕ
replaced search by text = join_by (λ piece. piece) by (pieces search text)

-- the string with that many bytes at a place replaced, if there is a place
abbrev pub replaced_at : ℕ → List ℕ → List ℕ → Option ℕ → List ℕ
replaced_at len by text None = text
replaced_at len by text (Some at) = take at text ++ (by ++ drop (at + len) text)

-- the string with the first place of a search string replaced
abbrev pub replaced_first : List ℕ → List ℕ → List ℕ → List ℕ
replaced_first search by text = replaced_at (length search) by text (first_of (matches text search 0))

-- the string with the last place of a search string replaced
abbrev pub replaced_last : List ℕ → List ℕ → List ℕ → List ℕ
replaced_last search by text = replaced_at (length search) by text (first_of (rmatches text search (length text)))

-- the string with each end of a line replaced: a line feed, and a carriage return right before it
abbrev pub with_line_ends : List ℕ → List ℕ → List ℕ
with_line_ends by text = replaced (codes "\n") by (replaced (codes "\r\n") (codes "\n") text)
