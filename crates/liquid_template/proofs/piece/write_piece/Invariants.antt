use Rattle.std.proofs.Common.{length}
use Rattle.std.specs.Prelude.{IsOk}
use Rattle.liquid_template.proofs.Pieces.{SoFar}
use Rattle.liquid_template.proofs.piece.write_piece.Given as goal

abbrev pub invariant-loop-rest : goal.invariant-loop-rest
invariant-loop-rest g l = record {
  answer : IsOk l.answer;
  so_far : SoFar l.piece l.rest (g.K.Sink.sunk l.initial.sink) (g.K.Sink.sunk l.sink);
}

abbrev pub decreases-loop-rest : goal.decreases-loop-rest
decreases-loop-rest g l = length l.rest
