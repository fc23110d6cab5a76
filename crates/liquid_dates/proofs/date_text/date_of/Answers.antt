use Rattle.liquid_dates.proofs.WholeLemmas.{none_weaker}
use Rattle.liquid_dates.proofs.date_text.date_of.Goals as goal

pub returns-then-is_empty-clause-none : goal.returns-then-is_empty-clause-none
returns-then-is_empty-clause-none c =
    none_weaker _ _ _ (λ d h. let w = rw c.in_ok-ymd.was at h in (w.1, w.2, w.3)) c.date_of_parts.ensures.none
