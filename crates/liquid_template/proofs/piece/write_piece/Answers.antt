use Rattle.std.proofs.Common.{rules}
use Rattle.liquid_template.proofs.Pieces.{so_far_begins, so_far_put, piece_written, piece_failed, piece_lost, told_memory}
use Rattle.liquid_template.proofs.piece.write_piece.Goals as goal

pub loop-rest-init : goal.loop-rest-init
loop-rest-init g c = record { answer = search rules; so_far = rw c.as_bytes-rest.ensures.value (so_far_begins _ _) }

pub loop-rest-preserved : goal.loop-rest-preserved
loop-rest-preserved g c =
    record {
      answer = c.loop-rest.invariant.answer;
      so_far = so_far_put _ _ _ _ _ c.in-Ok.count c.loop-rest.invariant.so_far
          (record {
            bytes = c.in-Ok.ensures.bytes;
            failures = c.in-Ok.ensures.count;
            destination = c.in-Ok.ensures.destination;
            lent = c.in-Ok.ensures.borrows;
          });
    }

pub returns : goal.returns
returns g c = piece_written _ _ _ _ _ c.loop-rest.invariant.answer (search rules) c.utf8.piece c.loop-rest.invariant.so_far

pub returns-in-Err-Failed : goal.returns-in-Err-Failed
returns-in-Err-Failed g c =
    let put = rw c.in-Err-Failed.field-0-is at c.in-Err-Failed.ensures in
    rw c.refuse.ensures (piece_failed _ _ _ _ _ _ c.loop-rest.invariant.so_far (search rules)
    (record { bytes = put.bytes; failures = put.count; destination = put.destination; lent = put.borrows }) c.with_msg.ensures)

pub returns-in-Err-Memory : goal.returns-in-Err-Memory
returns-in-Err-Memory g c =
    let put = rw c.in-Err-Memory.field-0-is at c.in-Err-Memory.ensures in
    rw c.refuse-in-Err-Memory.ensures (piece_lost _ _ _ _ _ _ c.loop-rest.invariant.so_far (search rules)
    (record { bytes = put.bytes; failures = put.count; destination = put.destination; lent = put.borrows }) told_memory)
