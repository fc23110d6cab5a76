use Rattle.std.proofs.Common.{arith}
use Rattle.std.proofs.lemmas.Grind.{common_steps}
use Rattle.std.proofs.lemmas.Str.{IsCharBoundary-after_ascii}
use Rattle.liquid_explain.proofs.values.eat.Goals as goal

pub range_from-requires : goal.range_from-requires
range_from-requires c _ = IsCharBoundary-after_ascii c.args.s.now 0 c.utf8.s (omega arith) (grind (arith, common_steps))
