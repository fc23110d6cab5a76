-- What bytes and their text write.
use Rattle.std.proofs.Common.{◌≡◌, ℕ, List, Option, None, Some, Result, Ok, Err, sym, subst}
use Rattle.std.specs.Prelude.{IfOk, IfSome, IfNone}
use Rattle.std.specs.Str.{IsUtf8}
use Rattle.liquid_dates.specs.declared.date_time.DateTime.{DateTime}
use Rattle.liquid_scalar.specs.meaning.Scalar.{text}
use Rattle.liquid_value.specs.meaning.Tree.{Tree, scalar}
use Rattle.filter_dates.specs.meaning.Moments.{IsMomentOf}
use Rattle.liquid_c.specs.meaning.Moments.{Writes}

module _ {E : Type 0} where
  -- what was found for a value holds for the same value
  pub found_for : (t u : Tree) (r : Result (Option DateTime) E) → t ≡ u → IfOk r (λ o. IfSome o (λ dt. IsMomentOf None t dt))
      → IfOk r (λ o. IfSome o (λ dt. IsMomentOf None u dt))
  found_for t u r is found = subst (λ t. IfOk r (λ o. IfSome o (λ dt. IsMomentOf None t dt))) is found

  pub none_for : (t u : Tree) (r : Result (Option DateTime) E) → t ≡ u
      → IfOk r (λ o. IfNone o ((dt : DateTime) → ¬ (IsMomentOf None t dt)))
      → IfOk r (λ o. IfNone o ((dt : DateTime) → ¬ (IsMomentOf None u dt)))
  none_for t u r is none = subst (λ t. IfOk r (λ o. IfNone o ((dt : DateTime) → ¬ (IsMomentOf None t dt)))) is none

  -- the bytes of a text write what the text writes
  pub bytes_write : (bytes written : List ℕ) (r : Result (Option DateTime) E) → written ≡ bytes → IsUtf8 bytes
      → IfOk r (λ o. IfSome o (λ dt. IsMomentOf None (scalar (text written)) dt)) → IfOk r (λ o. IfSome o (λ dt. Writes bytes dt))
  bytes_write bytes written (Ok (Some dt)) is valid found = (valid, subst (λ b. IsMomentOf None (scalar (text b)) dt) is found)
  bytes_write bytes written (Ok None) is valid found = tt
  bytes_write bytes written (Err e) is valid found = tt

  pub bytes_write_none : (bytes written : List ℕ) (r : Result (Option DateTime) E) → written ≡ bytes
      → IfOk r (λ o. IfNone o ((dt : DateTime) → ¬ (IsMomentOf None (scalar (text written)) dt)))
      → IfOk r (λ o. IfNone o ((dt : DateTime) → ¬ (Writes bytes dt)))
  bytes_write_none bytes written (Ok (Some dt)) is none = tt
  bytes_write_none bytes written (Ok None) is none =
      λ dt writes. none dt (subst (λ b. IsMomentOf None (scalar (text b)) dt) (sym is) writes.1)
  bytes_write_none bytes written (Err e) is none = tt
