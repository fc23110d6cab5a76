use Rattle.std.proofs.Common.{arith, refl}
use Rattle.jiff_core.proofs.SignedLemmas.{signed_arith}
use Rattle.liquid_dates.proofs.InstantLemmas.{instant_is}
use Rattle.liquid_dates.proofs.date_time.DateTime.at_offset.Goals as goal

pub returns-in-Ok-clause-succeeds : goal.returns-in-Ok-clause-succeeds
returns-in-Ok-clause-succeeds c =
    let fits = c.in-Ok.ensures.succeeds.0 refl in (
      λ _. (
        omega (arith, signed_arith, fits.0, c.shift-local.ensures.value),
        omega (arith, signed_arith, fits.1, c.shift-local.ensures.value),
      ),
      λ _. refl,
    )

pub returns-in-Ok-clause-instant : goal.returns-in-Ok-clause-instant
returns-in-Ok-clause-instant c =
    rw instant_is (omega (arith, signed_arith, c.in-Ok.ensures.value, c.shift-local.ensures.value))
