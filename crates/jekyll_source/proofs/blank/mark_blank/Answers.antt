use Rattle.std.proofs.Common.{◌≡◌, ◌∙◌, [], ap, map, reverse}
use Rattle.jekyll_source.specs.steps.Backwards.{marked_back}
use Rattle.jekyll_source.specs.steps.Parts.{marked_view, piece_view}
use Rattle.jekyll_source.proofs.BlankLemmas.{all_marked}
use Rattle.jekyll_source.proofs.blank.mark_blank.Goals as goal

pub loop-piece-init : goal.loop-piece-init
loop-piece-init c =
    let ps = map piece_view c.args.pieces.items in
    ap (λ ends. marked_back (reverse ps) (reverse ends) (map marked_view (reverse c.in_ok-marked.marked.items))) c.new-ends.ensures.items
    ∙ ap (λ done. marked_back (reverse ps) [] (map marked_view (reverse done))) c.in_ok-marked.ensures.items
    ∙ all_marked ps
