use Rattle.std.proofs.Common.{◌≡◌, length, map, reverse}
use Rattle.jekyll_source.specs.meaning.Blank.{marked}
use Rattle.jekyll_source.specs.steps.Backwards.{marked_back}
use Rattle.jekyll_source.specs.steps.Parts.{marked_view, piece_view}
use Rattle.jekyll_source.proofs.blank.mark_blank.Given as goal

abbrev pub invariant-loop-piece : goal.invariant-loop-piece
invariant-loop-piece l =
    marked_back (reverse (map piece_view l.pieces.items)) (reverse l.ends.items) (map marked_view (reverse l.marked.items))
    ≡ marked (map piece_view l.fn.pieces.items)

abbrev pub decreases-loop-piece : goal.decreases-loop-piece
decreases-loop-piece l = length l.pieces.items
