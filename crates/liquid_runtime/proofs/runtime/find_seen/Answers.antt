use Rattle.std.proofs.Common.{sym, inr}
use Rattle.liquid_paths.specs.meaning.PathOf.{indexes_of}
use Rattle.liquid_runtime.proofs.runtime.find_seen.Goals as goal

pub returns-in-Some-clause-in_place : goal.returns-in-Some-clause-in_place
returns-in-Some-clause-in_place c =
    inr (
      c.in-Loop.counts.place,
      c.in-Loop.counts.size,
      indexes_of c.args.path.now,
      sym (rw c.in-Some.is at c.in_ok-part-in-Loop.ensures),
    )
