use Rattle.std.proofs.Common.{◌<◌, length, rules}
use Rattle.liquid_template.proofs.Outlets.{gated_put, gated_refused}
use Rattle.liquid_template.proofs.outlet.WithGateAskGatedSink.put.Goals as goal

pub returns-then-bytes : goal.returns-then-bytes
returns-then-bytes g c = gated_put _ _ _ _ _ _ _ c.if-bytes.true (c.bytes.ensures.bytes) c.bytes.ensures.turns c.write_piece.ensures

pub returns-else-bytes : goal.returns-else-bytes
returns-else-bytes g c =
    let some : 0 < length c.args.piece.now = search rules in
    rw c.refuse.ensures (gated_refused _ _ _ _ _ _ c.if-bytes.false some c.bytes.ensures.bytes c.bytes.ensures.past c.bytes.ensures.turns
    c.stopped_error.ensures)
