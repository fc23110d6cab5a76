use Rattle.std.proofs.Common.{◌≡◌, ◌∙◌, ap, unwrap_or, arith}
use Rattle.jiff_core.proofs.SignedLemmas.{signed_arith}
use Rattle.liquid_dates.specs.meaning.Instant.{offset_seconds}
use Rattle.liquid_dates.proofs.WholeLemmas.{none_weaker}
use Rattle.liquid_dates.proofs.date_time_text.date_time_of.Goals as goal

pub returns-clause-none : goal.returns-clause-none
returns-clause-none c =
    none_weaker _ _ _ (λ dt h.
    let w = rw c.in_ok-stamp.was at h in
    let same : c.in_ok-offset.offset ≡ offset_seconds dt = ap (λ o. unwrap_or o c.in_ok-offset.offset) (c.in_ok-offset.ensures ∙ w.0) in
    (omega (arith, signed_arith, same, dt.offset.in_range), w.1)) c.at_stamp.ensures.none
