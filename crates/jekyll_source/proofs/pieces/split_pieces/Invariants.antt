use Rattle.std.proofs.Common.{◌≡◌, ◌++◌, length, map}
use denote.Shadow.{shadow}
use denote.Text.{Utf8}
use Rattle.jekyll_source.specs.meaning.Pieces.{pieces}
use Rattle.jekyll_source.specs.steps.Parts.{piece_view}
use Rattle.jekyll_source.proofs.pieces.split_pieces.Given as goal

abbrev pub decreases-loop-rest : goal.decreases-loop-rest
decreases-loop-rest l = length l.rest

abbrev pub invariant-loop-rest : goal.invariant-loop-rest
invariant-loop-rest l = record {
  whole : map piece_view l.pieces.items ++ pieces l.rest ≡ pieces l.fn.text;
  utf8 : shadow (Utf8 l.rest);
}
