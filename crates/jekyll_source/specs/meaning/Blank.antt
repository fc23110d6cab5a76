-- Blank blocks: those that write nothing. The whitespace in such an `if`, `unless`, `for` or `case` is not written.
use Rattle.std.specs.Prelude.{ℕ, Bool, true, false, ◌&&◌, ◌||◌, List, [], ◌∷◌, ◌++◌, bytes_eq, codes, drop, nat_eq, if◌then◌else◌}
use Rattle.std.specs.List.{list_all, starts_with}
use Rattle.jekyll_source.specs.meaning.Piece.{Piece, plain, value, tag}
use Rattle.jekyll_source.specs.meaning.Rewriting.{rewritten}
use Rattle.jekyll_source.specs.meaning.Splits.{is_white, split_end_dash}
use Rattle.jekyll_source.specs.meaning.Tags.{named}

-- the blocks whose whitespace is left out if they are blank
abbrev pub is_branching : List ℕ → Bool
is_branching name =
    (bytes_eq name (codes "if") || bytes_eq name (codes "unless")) || (bytes_eq name (codes "for") || bytes_eq name (codes "case"))

-- the blocks whose parts have tags
abbrev pub is_start : List ℕ → Bool
is_start name =
    (is_branching name || bytes_eq name (codes "capture"))
    || ((bytes_eq name (codes "tablerow") || bytes_eq name (codes "ifchanged")) || bytes_eq name (codes "highlight"))

abbrev pub is_end : List ℕ → Bool
is_end name = starts_with nat_eq name (codes "end") && is_start (drop 3 name)

-- the other tags that write nothing
abbrev pub is_silent : List ℕ → Bool
is_silent name =
    ((bytes_eq name (codes "assign") || bytes_eq name (codes "comment"))
    || (bytes_eq name (codes "endcomment") || bytes_eq name (codes "endraw")))
    || ((bytes_eq name (codes "else") || bytes_eq name (codes "elsif")) || bytes_eq name (codes "when"))

abbrev pub is_white_text : List ℕ → Bool
is_white_text text = list_all is_white text

abbrev pub is_nothing : List ℕ → Bool
is_nothing [] = true
is_nothing (b ∷ bs) = false

-- whether a piece that begins and ends no block writes nothing
abbrev pub writes_nothing : Piece → Bool
writes_nothing (plain text) = is_white_text text
writes_nothing (value inner) = false
writes_nothing (tag inner body) =
    is_silent (named inner).0 || (bytes_eq (named inner).0 (codes "raw") && is_nothing body)

-- the name of a tag
abbrev pub name_of : Piece → List ℕ
name_of (plain text) = []
name_of (value inner) = []
name_of (tag inner body) = (named inner).0

-- of the innermost block, if there is one; `false` outside of all
abbrev pub innermost : List Bool → Bool
innermost [] = false
innermost (b ∷ bs) = b

-- the innermost block is blank only if this is so
abbrev pub blank_if : Bool → List Bool → List Bool
blank_if so [] = []
blank_if so (b ∷ bs) = (so && b) ∷ bs

-- a block has begun, so it is a part of the one around it, which is blank only if this part is. A `capture` always is
abbrev pub as_part : Bool → List Bool → List Bool
as_part is_capture [] = []
as_part is_capture (b ∷ bs) = blank_if (is_capture || b) bs

abbrev pub blank_before : Piece → List Bool → List Bool
blank_before p bs =
    if is_end (name_of p) then true ∷ bs
    else if is_start (name_of p) then as_part (bytes_eq (name_of p) (codes "capture")) bs
    else blank_if (writes_nothing p) bs

-- the blocks that end in these pieces and began before them, the innermost first: whether each writes nothing in them
abbrev pub blank_ends : List Piece → List Bool
blank_ends [] = []
blank_ends (p ∷ ps) = blank_before p (blank_ends ps)

-- a piece, and whether it begins a block whose whitespace is left out
abbrev pub Marked : Type 0
Marked = Piece × Bool

abbrev pub mark : Piece → List Bool → Marked
mark p ends = (p, is_branching (name_of p) && innermost ends)

abbrev pub marked : List Piece → List Marked
marked [] = []
marked (p ∷ ps) = mark p (blank_ends ps) ∷ marked ps

-- the blocks that are open after a piece, the innermost first: whether the whitespace of each is left out
abbrev pub without_first : List Bool → List Bool
without_first [] = []
without_first (b ∷ bs) = bs

abbrev pub open_after : Marked → List Bool → List Bool
open_after m blocks =
    if is_end (name_of m.0) then without_first blocks else if is_start (name_of m.0) then m.1 ∷ blocks else blocks

-- the whitespace that the tag before it takes, so that it is not written and all that follows has its place
abbrev pub white_of : Piece → List ℕ
white_of (plain text) = if is_white_text text then text else []
white_of (value inner) = []
white_of (tag inner body) = []

abbrev pub taken_white : Bool → List Marked → List ℕ
taken_white is_left_out [] = []
taken_white is_left_out (m ∷ ms) = if is_left_out then white_of m.0 else []

-- a tag with whitespace before its `%}`
abbrev pub widened : List ℕ → List ℕ → List ℕ
widened [] inner = rewritten inner
widened (b ∷ bs) inner = (split_end_dash inner).0 ++ ((b ∷ bs) ++ (split_end_dash inner).1)

-- what is written for a piece, after which comes whitespace that it takes
abbrev pub written : Bool → List ℕ → Piece → List ℕ
written is_left_out white (plain text) = if is_left_out && is_white_text text then [] else text
written is_left_out white (value inner) = codes "{{" ++ (inner ++ codes "}}")
written is_left_out white (tag inner body) = codes "{%" ++ (widened white inner ++ (codes "%}" ++ body))

-- what is written for pieces within these blocks
abbrev pub written_in : List Bool → List Marked → List ℕ
written_in blocks [] = []
written_in blocks (m ∷ ms) =
    written (innermost blocks) (taken_white (innermost (open_after m blocks)) ms) m.0 ++ written_in (open_after m blocks) ms
