use Rattle.std.proofs.Common.{ap, option_map}
use Rattle.liquid_template.proofs.Framing.{framed_kept}
use Rattle.liquid_template.proofs.Goings.{frame_lost, partial_fails}
use Rattle.liquid_template.proofs.Keeping.{keeps_store, keeps_both, keeps_ended}
use Rattle.liquid_template.proofs.turn.open_partial.Goals as goal

pub returns-in-Err-clause-opens : goal.returns-in-Err-clause-opens
returns-in-Err-clause-opens g c =
    rw c.refuse.ensures (c.in-Err.ensures.owes, λ b. frame_lost _ _ _ _ _ _ _ c.in-Err.ensures.err c.in-Err.ensures.unchanged b)

pub returns-in-Err-find_within_depth-clause-opens : goal.returns-in-Err-find_within_depth-clause-opens
returns-in-Err-find_within_depth-clause-opens g c =
    let x = rw (ap (option_map g.S.Store.PartialStore.finds) c.in-Ok.ensures.store) at c.in-Err-find_within_depth.ensures.finds in (
      framed_kept _ _ _ _ _ _ _ _ c.in-Ok.ensures.opens c.in-Err-find_within_depth.ensures.owes c.pop.ensures.ends,
      partial_fails _ _ _ _ _ _ _ _ _ _ _ _ _ _ c.in-Ok.ensures.ok c.in-Ok.ensures.opens c.in-Err-find_within_depth.ensures.owes
          c.in-Err-find_within_depth.ensures.view c.pop.ensures.ends c.with_own_trace.ensures x,
    )

pub returns-in-Err-clause-keeps : goal.returns-in-Err-clause-keeps
returns-in-Err-clause-keeps g c = keeps_store _ _ _ _ _ _ _ c.in-Err.ensures.store c.in-Err.ensures.borrows

pub returns-in-Err-find_within_depth-clause-keeps : goal.returns-in-Err-find_within_depth-clause-keeps
returns-in-Err-find_within_depth-clause-keeps g c =
    keeps_ended _ _ _ _ _ _ _ _ (keeps_both _ _ _ _ _ _ _ _ (keeps_store _ _ _ _ _ _ _ c.in-Ok.ensures.store c.in-Ok.ensures.borrows)
    c.in-Err-find_within_depth.ensures.keeps) c.pop.ensures.store c.pop.ensures.borrows

pub returns-in-Ok-find_within_depth-clause-keeps : goal.returns-in-Ok-find_within_depth-clause-keeps
returns-in-Ok-find_within_depth-clause-keeps g c =
    keeps_both _ _ _ _ _ _ _ _ (keeps_store _ _ _ _ _ _ _ c.in-Ok.ensures.store c.in-Ok.ensures.borrows)
    c.in-Ok-find_within_depth.ensures.keeps
