-- Pieces that are written as they are.
use Rattle.std.specs.Prelude.{◌≡◌, false}
use Rattle.jekyll_source.specs.meaning.Blank.{Marked}
use Rattle.jekyll_source.specs.meaning.Piece.{Piece, plain, value, tag}
use Rattle.jekyll_source.specs.meaning.Rewriting.{takes_name}
use Rattle.jekyll_source.specs.meaning.Tags.{tag_of}

-- no tag that takes a name
abbrev pub TakesNoName : Piece → Type 0
TakesNoName (plain text) = Unit {0}
TakesNoName (value inner) = Unit {0}
TakesNoName (tag inner body) = takes_name (tag_of inner).name ≡ false

-- no block whose whitespace is left out begins here
abbrev pub LeavesNothingOut : Marked → Type 0
LeavesNothingOut m = m.1 ≡ false
