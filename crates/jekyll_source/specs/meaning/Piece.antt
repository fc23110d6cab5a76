-- What a text consists of.
use Rattle.std.specs.Prelude.{ℕ, List, ◌++◌, codes}

-- text; what is between `{{` and `}}`; what is between `{%` and `%}`, and the body after it if no tag is read there
pub data Piece : Type 0 where
  plain : List ℕ → Piece
  value : List ℕ → Piece
  tag : List ℕ → List ℕ → Piece

-- the bytes of a piece
abbrev pub bytes_of : Piece → List ℕ
bytes_of (plain text) = text
bytes_of (value inner) = codes "{{" ++ (inner ++ codes "}}")
bytes_of (tag inner body) = codes "{%" ++ (inner ++ (codes "%}" ++ body))
