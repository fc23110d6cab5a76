-- Pieces, marked from the last one to the first.
use Rattle.std.specs.Prelude.{Bool, List, [], ◌∷◌}
use Rattle.jekyll_source.specs.meaning.Blank.{Marked, blank_before, mark}
use Rattle.jekyll_source.specs.meaning.Piece.{Piece}

-- pieces, the last one first, before those that are marked, where it is known of the blocks that end in these which are blank
abbrev pub marked_back : List Piece → List Bool → List Marked → List Marked
marked_back [] ends done = done
marked_back (p ∷ before) ends done = marked_back before (blank_before p ends) (mark p ends ∷ done)
