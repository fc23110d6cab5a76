use Rattle.std.proofs.Common.{◌≡◌, [], ◌++◌, length, map, reverse, string_bytes}
use Rattle.jekyll_source.specs.meaning.Blank.{written_in}
use Rattle.jekyll_source.specs.steps.Parts.{marked_view}
use Rattle.jekyll_source.proofs.text.write_marked.Given as goal

abbrev pub decreases-loop-piece : goal.decreases-loop-piece
decreases-loop-piece l = length l.marked.items

abbrev pub invariant-loop-piece : goal.invariant-loop-piece
invariant-loop-piece l =
    string_bytes l.out ++ written_in (reverse l.blocks.items) (map marked_view (reverse l.marked.items))
    ≡ written_in [] (map marked_view (reverse l.fn.marked.items))
