-- Each day number from the first date to the last is that of a date, and each second in it that of a date time.
use Rattle.std.proofs.Common.{◌≡◌, ◌⊎◌, inl, inr, ℕ, zero, suc, ◌+◌, ◌-◌, ◌/◌, ◌%◌, ◌<◌, ◌≤◌, refl, ◌∙◌, arith, ℤ, pos, negsuc, neg_ℤ}
use Rattle.std.specs.Prelude.{◌+ℤ◌, ◌<ℤ◌, ◌≤ℤ◌}
use Rattle.std.proofs.lemmas.Bool.{cases_lt}
use Rattle.jiff_core.specs.Calendar.{days_in_month, days_from_civil}
use Rattle.jiff_core.specs.Date.{epoch_day}
use Rattle.jiff_core.specs.Time.{time_seconds}
use Rattle.jiff_core.specs.declared.civil.date.Date.{Date as CivilDate}
use Rattle.jiff_core.specs.declared.civil.time.Time.{Time as CivilTime}
use Rattle.jiff_core.proofs.CalendarLemmas.{days_in_month_bounds}
use Rattle.jiff_core.proofs.DateLemmas.{
  days_from_civil-day,
  days_from_civil-min,
  days_from_civil-max,
  days_from_civil-next_month,
  days_from_civil-next_year,
}
use Rattle.jiff_core.proofs.SignedLemmas.{signed_arith}
use Rattle.liquid_dates.specs.declared.date_time.DateTime.{DateTime}
use Rattle.liquid_dates.specs.meaning.DateText.{IsUnixTime}
use Rattle.liquid_dates.specs.meaning.Instant.{unix_seconds}
use Rattle.liquid_dates.proofs.UnixTimeLemmas.{unix_range}
use Rattle.filter_dates.proofs.Deciding.{Either, Decided, both, at_most_z, cases_z}
use Rattle.filter_dates.proofs.Parts.{date_of, time_of, date_time_of}

-- a date that many days after the first one
abbrev IsAfterFirst : ℕ → CivilDate → Type 0
IsAfterFirst k d = epoch_day d +ℤ pos 4_371_587 ≡ pos k

next_day : (k : ℕ) (d : CivilDate) → IsAfterFirst k d → d.day < days_in_month d.year d.month → (e : CivilDate) × IsAfterFirst (suc k) e
next_day k d is h =
    let low : 1 ≤ d.day = d.day_in.0 in (
      date_of d.year d.month (d.day + 1) (d.year_in, d.month_in, (omega arith, omega arith)),
      omega (arith, signed_arith, is, days_from_civil-day d.year d.month d.day (d.day + 1) low (omega arith)),
    )

next_month : (k : ℕ) (d : CivilDate) → IsAfterFirst k d → d.day ≡ days_in_month d.year d.month → d.month < 12 → (e : CivilDate)
    × IsAfterFirst (suc k) e
next_month k d is last h =
    let bounds = days_in_month_bounds d.year (d.month + 1) in
    let low : 1 ≤ d.month = d.month_in.0 in (
      date_of d.year (d.month + 1) 1 (d.year_in, (omega arith, omega arith), (omega arith, omega (arith, bounds.1))),
      omega (arith, signed_arith, is, days_from_civil-next_month d.year d.month d.day low last),
    )

next_year : (k : ℕ) (d : CivilDate) → IsAfterFirst k d → d.day ≡ 31 → d.month ≡ 12 → d.year <ℤ pos 9999 → (e : CivilDate)
    × IsAfterFirst (suc k) e
next_year k d is last end h =
    let first = d.year_in.0 in
    let more = days_from_civil-next_year d.year (d.year +ℤ pos 1) (omega (arith, signed_arith, first)) refl in
    let is₂ : days_from_civil d.year 12 31 +ℤ pos 4_371_587 ≡ pos k = rw (← last, ← end) is in (
      date_of (d.year +ℤ pos 1) 1 1 (
        (omega (arith, signed_arith, first), omega (arith, signed_arith, h)),
        (omega arith, omega arith),
        (omega arith, omega arith),
      ),
      omega (arith, signed_arith, is₂, more),
    )

-- 31 December
last_day : (y : ℤ) (m d : ℕ) → m ≡ 12 → d ≡ days_in_month y m → d ≡ 31
last_day y m d e f = f ∙ rw e refl

next_date : (k : ℕ) → suc k ≤ 7_304_483 → (d : CivilDate) → IsAfterFirst k d → (e : CivilDate) × IsAfterFirst (suc k) e
next_date k small d is = by_day (cases_lt d.day (days_in_month d.year d.month))
  where
    by_year : d.day ≡ 31 → d.month ≡ 12 → (d.year ≤ℤ pos 9998) ⊎ (pos 9998 <ℤ d.year) → (e : CivilDate) × IsAfterFirst (suc k) e
    by_year last end (inl h) = next_year k d is last end (omega (arith, signed_arith, h))
    by_year last end (inr late) =
        let most = d.year_in.1 in
        let year : d.year ≡ pos 9999 = omega (arith, signed_arith, most, late) in
        let is₂ : days_from_civil (pos 9999) 12 31 +ℤ pos 4_371_587 ≡ pos k = rw (← last, ← end, ← year) is in
        absurd (omega (arith, signed_arith, is₂, days_from_civil-max))

    by_month : d.day ≡ days_in_month d.year d.month → (d.month < 12) ⊎ (12 ≤ d.month) → (e : CivilDate) × IsAfterFirst (suc k) e
    by_month last (inl h) = next_month k d is last h
    by_month last (inr h) =
        let high : d.month ≤ 12 = d.month_in.1 in
        let end : d.month ≡ 12 = omega arith in
        by_year (last_day d.year d.month d.day end last) end (cases_z d.year (pos 9998))

    by_day : (d.day < days_in_month d.year d.month) ⊎ (days_in_month d.year d.month ≤ d.day) → (e : CivilDate) × IsAfterFirst (suc k) e
    by_day (inl h) = next_day k d is h
    by_day (inr h) =
        let high : d.day ≤ days_in_month d.year d.month = d.day_in.1 in
        by_month (omega arith) (cases_lt d.month 12)

each_day : (k : ℕ) → k ≤ 7_304_483 → (d : CivilDate) × IsAfterFirst k d
each_day zero small = (
  date_of (neg_ℤ (pos 9999)) 1 1 (
    (omega (arith, signed_arith), omega (arith, signed_arith)),
    (omega arith, omega arith),
    (omega arith, omega arith),
  ),
  omega (arith, signed_arith, days_from_civil-min),
)
each_day (suc k) small =
    let before = each_day k (omega arith) in
    next_date k small before.0 before.1

each_clock : (s : ℕ) → s < 86_400 → (t : CivilTime) × (time_seconds t ≡ s) × (t.subsec_nanosecond ≡ 0)
each_clock s h = (time_of (s / 3600) (s % 3600 / 60) (s % 60) 0 (omega arith, omega arith, omega arith, omega arith), omega arith, refl)

each_second : (z : ℤ) (n : ℕ) → z +ℤ pos 377_705_116_800 ≡ pos n → n < 631_107_417_600 → (dt : DateTime) × IsUnixTime z dt
unfolding unix_seconds
each_second z n is h =
    let day = each_day (n / 86_400) (omega arith) in
    let clock = each_clock (n % 86_400) (omega arith) in (
      date_time_of day.0 clock.0 (pos 0) (omega (arith, signed_arith), omega (arith, signed_arith)),
      (omega (arith, signed_arith, is, day.1, clock.1), clock.2, refl),
    )

-- the number of seconds that a number is after the first one
from_first : (z : ℤ) → neg_ℤ (pos 377_705_116_800) ≤ℤ z → (n : ℕ) × (z +ℤ pos 377_705_116_800 ≡ pos n)
from_first (pos a) h = (a + 377_705_116_800, omega (arith, signed_arith))
from_first (negsuc a) h = (377_705_116_800 - suc a, omega (arith, signed_arith))

-- whole seconds since 1970 are those of a date time, if the years have them
pub unix_decided : (z : ℤ) → Decided (IsUnixTime z)
unix_decided z = by_cases (both (at_most_z (neg_ℤ (pos 377_705_116_800)) z) (at_most_z z (pos 253_402_300_799)))
  where
    by_cases : Either ((neg_ℤ (pos 377_705_116_800) ≤ℤ z) × (z ≤ℤ pos 253_402_300_799)) → Decided (IsUnixTime z)
    by_cases (inl h) = let n = from_first z h.0 in inl (each_second z n.0 n.1 (omega (arith, signed_arith, n.1, h.1)))
    by_cases (inr fails) = inr (λ dt is.
        let range = unix_range dt z is in
        fails (omega (arith, signed_arith, range.0), omega (arith, signed_arith, range.1)))
