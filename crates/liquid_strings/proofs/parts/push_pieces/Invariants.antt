use Rattle.std.proofs.Common.{◌≡◌, ◌++◌, map, length}
use Rattle.std.specs.Str.{IsCharBoundary}
use Rattle.memchr.specs.Find.{matches}
use Rattle.liquid_strings.specs.meaning.Pieces.{pieces_between}
use Rattle.liquid_strings.proofs.parts.push_pieces.Given as goal

abbrev pub invariant-loop-at : goal.invariant-loop-at
invariant-loop-at l = record {
  cut : IsCharBoundary l.text l.from;
  places : l.at-iterator ≡ matches l.text l.search l.from;
  whole : map (λ p. p.now) l.pieces.items ++ pieces_between (length l.search) l.text l.from l.at-iterator
      ≡ map (λ p. p.now) l.fn.pieces.items ++ pieces_between (length l.search) l.text 0 (matches l.text l.search 0);
}
