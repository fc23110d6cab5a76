-- The pieces of a text.
use Rattle.std.specs.Prelude.{ℕ, zero, suc, ◌+◌, Bool, not, ◌==◌, List, [], ◌∷◌, ◌++◌, Option, Some, None, codes, flat_map, length}
use Rattle.std.specs.Prelude.{drop}
use Rattle.std.specs.List.{prefix_len}
use Rattle.std.specs.Option.{option_map_or}
use Rattle.std.specs.Str.{byte}
use Rattle.jekyll_source.specs.meaning.Blank.{marked, written_in}
use Rattle.jekyll_source.specs.meaning.Bodies.{split_body}
use Rattle.jekyll_source.specs.meaning.Piece.{Piece, plain, value, tag, bytes_of}
use Rattle.jekyll_source.specs.meaning.Splits.{Parts, after_opener, split_around, split_at}
use Rattle.jekyll_source.specs.meaning.Tags.{named}

-- a piece, and the rest of the text
abbrev pub Taken : Type 0
Taken = Piece × List ℕ

abbrev pub value_taken : Parts → Taken
value_taken p = (value p.0, p.1)

abbrev pub tag_taken : Parts → Taken
tag_taken p = (tag p.0 (split_body (named p.0).0 p.1).0, (split_body (named p.0).0 p.1).1)

abbrev pub plain_taken : Parts → Taken
plain_taken p = (plain p.0, p.1)

-- the first byte, and what follows it up to a brace
abbrev pub plain_len : List ℕ → ℕ
plain_len text = 1 + prefix_len (λ b. not (b == byte "{")) (drop 1 text)

-- the tag or the value whose opener is before `rest`: up to the first `%}` or `}}`, or all of the text if there is none
abbrev pub tag_or_plain : List ℕ → List ℕ → Taken
tag_or_plain text rest = option_map_or tag_taken (split_around (codes "%}") rest) (plain text, [])

abbrev pub whole_value : List ℕ → List ℕ → Taken
whole_value text rest = option_map_or value_taken (split_around (codes "}}") rest) (plain text, [])

-- the value, or without its opener the text up to the next brace
abbrev pub value_or_plain : List ℕ → Taken
value_or_plain text =
    option_map_or (λ rest. whole_value text rest) (after_opener (byte "{") text) (plain_taken (split_at (plain_len text) text))

-- the piece with which a text begins
abbrev pub first_piece : List ℕ → Taken
first_piece text = option_map_or (λ rest. tag_or_plain text rest) (after_opener (byte "%") text) (value_or_plain text)

-- that many pieces, or all of them
abbrev pub pieces_in : ℕ → List ℕ → List Piece
pieces_in zero text = []
pieces_in (suc n) [] = []
pieces_in (suc n) (b ∷ bs) = (first_piece (b ∷ bs)).0 ∷ pieces_in n (first_piece (b ∷ bs)).1

abbrev pub pieces : List ℕ → List Piece
pieces text = pieces_in (length text) text

-- the pieces, joined
abbrev pub joined : List Piece → List ℕ
joined ps = flat_map bytes_of ps

-- the text with its tags in this engine's grammar, and without the whitespace of blocks that write nothing
abbrev pub jekyll_text : List ℕ → List ℕ
jekyll_text text = written_in [] (marked (pieces text))
