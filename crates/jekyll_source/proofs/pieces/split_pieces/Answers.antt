use Rattle.std.proofs.Common.{◌≡◌, ◌≢◌, ◌∷◌, ◌++◌, ◌∙◌, [], ap, map, rules}
use Rattle.std.proofs.lemmas.List.{map-append}
use Rattle.jekyll_source.specs.steps.Parts.{piece_view}
use Rattle.jekyll_source.proofs.PieceLemmas.{turn}
use Rattle.jekyll_source.proofs.pieces.split_pieces.Goals as goal

pub loop-rest-preserved : goal.loop-rest-preserved
loop-rest-preserved c =
    let more : c.loop-rest.rest.now ≢ [] = search rules in
    let grown : map piece_view c.push.new.self.items ≡ map piece_view c.loop-rest.pieces.items ++ piece_view c.first_piece.result.0 ∷ [] =
    ap (map piece_view) c.in_ok-push.ensures.items ∙ map-append piece_view c.loop-rest.pieces.items (c.first_piece.result.0 ∷ []) in
    record {
      whole = turn c.first_piece.result.1.now c.loop-rest.rest.now _ _ _ _ more c.first_piece.ensures.value grown
          c.loop-rest.invariant.whole;
      utf8 = search rules;
    }
