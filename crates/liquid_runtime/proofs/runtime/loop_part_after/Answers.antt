use Rattle.std.proofs.Common.{Ok, take, drop, sym, ap, ◌∙◌}
use Rattle.liquid_paths.specs.meaning.PathOf.{indexes_of}
use Rattle.liquid_paths.specs.meaning.Walk.{find_after}
use Rattle.liquid_runtime.proofs.LoopLaws.{leads_from}
use Rattle.liquid_runtime.proofs.runtime.loop_part_after.Goals as goal

pub returns-clause-of_loop : goal.returns-clause-of_loop
returns-clause-of_loop c =
    let front = indexes_of (take 1 c.args.path.now) in
    let path = indexes_of (drop 1 c.args.path.now) in
    leads_from c.args.counts.place c.args.counts.size front path _
    (ap Ok c.in_ok-into_owned.ensures ∙ sym c.in_ok-found.ensures.gives
    ∙ ap (λ t. find_after front t path) c.in_ok-object.ensures)
