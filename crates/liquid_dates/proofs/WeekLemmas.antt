-- How often a weekday has passed in the days that end with a day.
use Rattle.std.proofs.Common.{◌≡◌, ℕ, zero, suc, ◌+◌, ◌-◌, ◌/◌, ◌%◌, ◌<◌, arith, ℤ, pos, ◌+ℤ◌, ◌-ℤ◌, eqb, cond}
use Rattle.jiff_core.specs.Calendar.{weekday_number}
use Rattle.jiff_core.proofs.CalendarLemmas.{weekday_number-add, weekday_number_bound}
use Rattle.jiff_core.proofs.SignedLemmas.{signed_arith}
use Rattle.std.proofs.lemmas.Bool.Decides.{nat_tests}
use Rattle.liquid_dates.specs.meaning.Numbers.{weekdays_passed}

-- one more day, n days back: it is that weekday exactly if n is the remainder of the days since one
step : (n s w x today : ℕ) → w < 7 → x < 7 → today ≡ (x + n) % 7 → s ≡ (today + 7 - w) % 7
    → (n + 6 - s) / 7 + cond (eqb x w) 1 0 ≡ (suc n + 6 - s) / 7
step n s w x today hw hx e f = grind (arith, nat_tests)

pub weekdays_passed_is : (w n s : ℕ) (day : ℤ) → w < 7 → s ≡ (weekday_number day + 7 - w) % 7 → weekdays_passed w day n ≡ (n + 6 - s) / 7
unfolding weekdays_passed
weekdays_passed_is w zero s day h e = omega arith
weekdays_passed_is w (suc n) s day h e =
    let back : day ≡ (day -ℤ pos n) +ℤ pos n = omega (arith, signed_arith) in
    let today = weekday_number-add (day -ℤ pos n) day n back in
    rw (weekdays_passed_is w n s day h e) (step n s w (weekday_number (day -ℤ pos n)) (weekday_number day) h
    (weekday_number_bound (day -ℤ pos n)) today e)
