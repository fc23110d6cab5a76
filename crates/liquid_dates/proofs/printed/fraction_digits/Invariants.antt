use Rattle.std.proofs.Common.{◌≡◌, ℕ, suc, ◌*◌, ◌^◌, ◌<◌, List, ◌++◌}
use Rattle.std.specs.Fmt.{HasWritten, IsPlainFormatter}
use Rattle.liquid_dates.specs.meaning.Printed.{fraction_digits}
use Rattle.liquid_dates.proofs.printed.fraction_digits.Given as goal

abbrev pub invariant-digits : goal.invariant-digits
invariant-digits g l =
    (k : ℕ) × (l.place ≡ 10 ^ k) × (l.left < 10 * l.place) × (0 < l.place) × (done : List ℕ)
    × (done ++ fraction_digits (suc k) l.left ≡ fraction_digits 9 l.fn.nanosecond)
    × (IsPlainFormatter l.initial.f → HasWritten g.W.Write.write_str_gives l.initial.f done l.f)

abbrev pub decreases-digits : goal.decreases-digits
decreases-digits g l = l.place
