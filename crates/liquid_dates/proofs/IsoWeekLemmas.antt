-- The ISO year and week of a date are those of any week date of the same day.
use Rattle.std.proofs.Common.{
  ◌≡◌,
  ℕ,
  ◌+◌,
  ◌-◌,
  ◌*◌,
  ◌/◌,
  refl,
  arith,
  ℤ,
  pos,
  neg_ℤ,
  ◌+ℤ◌,
  ◌-ℤ◌,
  ◌<ℤ◌,
  ◌≤ℤ◌,
  ◌<◌,
  ◌≤◌,
  int_lt,
  unsigned_abs,
  if◌then◌else◌,
  Bool,
  true,
  false,
}
use Rattle.jiff_core.specs.declared.civil.weekday.Weekday.{Weekday}
use Rattle.jiff_core.specs.declared.civil.weekday.Weekday.TheVariants.{Monday, Tuesday, Wednesday, Thursday, Friday, Saturday, Sunday}
use Rattle.std.proofs.lemmas.Int.{by_lt_z}
use Rattle.jiff_core.specs.Calendar.{iso_year_start, IsBetween, IsYear}
use Rattle.jiff_core.specs.declared.civil.date.Date.{Date}
use Rattle.jiff_core.specs.declared.civil.iso_week_date.ISOWeekDate.{ISOWeekDate}
use Rattle.jiff_core.specs.Date.{epoch_day}
use Rattle.jiff_core.specs.IsoWeek.{days_from_iso}
use Rattle.jiff_core.specs.IsoWeekDate.{iso_epoch_day}
use Rattle.jiff_core.specs.Weekday.{monday_zero}
use Rattle.jiff_core.proofs.SignedLemmas.{signed_arith, one_part}
use Rattle.jiff_core.proofs.CalendarLemmas.{days_from_civil-day_count, day_count-later_year, days_in_year_bounds}
use Rattle.jiff_core.proofs.IsoWeekLemmas.{weeks_in_year-next, iso_year_start_near, in_year_before, in_year_after, in_year_last}
use Rattle.liquid_dates.specs.meaning.IsoWeek.{iso_year, iso_week}

-- the day is in the weeks of the year
pub record IsInYear (y day : ℤ) : Type 0 where
  pub year : IsYear y
  pub start : iso_year_start y ≤ℤ day
  pub before : day <ℤ iso_year_start (y +ℤ pos 1)

-- a later year begins after the weeks of an earlier one
start_later : (a b : ℤ) → IsYear a → IsYear b → a <ℤ b → iso_year_start (a +ℤ pos 1) ≤ℤ iso_year_start b
start_later a b ya yb h =
    by_lt_z (a +ℤ pos 1) b
    (λ lt.
    let next : IsBetween (neg_ℤ (pos 9999)) (pos 10000) (a +ℤ pos 1) = omega (arith, signed_arith) in
    let last : IsBetween (neg_ℤ (pos 9999)) (pos 10000) b = omega (arith, signed_arith) in
    let low : neg_ℤ (pos 10000) ≤ℤ (a +ℤ pos 1) = omega (arith, signed_arith) in
    let far = day_count-later_year (a +ℤ pos 1) b low lt in
    let long = (days_in_year_bounds (a +ℤ pos 1)).1 in
    let near = iso_year_start_near (a +ℤ pos 1) next in
    let near_b = iso_year_start_near b last in
    omega (arith, signed_arith, days_from_civil-day_count (a +ℤ pos 1) 1 1, days_from_civil-day_count b 1 1, near.0, near_b.1))
    (λ ge.
    let e : a +ℤ pos 1 ≡ b = omega (arith, signed_arith) in
    rw e (omega (arith, signed_arith)))

-- so a day is in the weeks of one year
year_only : (a b day : ℤ) → IsInYear a day → IsInYear b day → a ≡ b
year_only a b day h k =
    by_lt_z a b
    (λ lt. absurd (omega (arith, signed_arith, start_later a b h.year k.year lt, h.before, k.start)))
    (λ ge. by_lt_z b a
    (λ gt. absurd (omega (arith, signed_arith, start_later b a k.year h.year gt, k.before, h.start)))
    (λ le. omega (arith, signed_arith)))

-- the year that the definition picks
picked : (d : Date) → (a b : Bool) → int_lt (epoch_day d) (iso_year_start d.year) ≡ a
    → int_lt (epoch_day d) (iso_year_start (d.year +ℤ pos 1)) ≡ b
    → IsInYear (if a then d.year -ℤ pos 1 else (if b then d.year else d.year +ℤ pos 1)) (epoch_day d)
picked d true b p q =
    let lt : epoch_day d <ℤ iso_year_start d.year = omega (arith, signed_arith) in
    let e : (d.year -ℤ pos 1) +ℤ pos 1 ≡ d.year = omega (arith, signed_arith) in
    let h = in_year_before d (d.year -ℤ pos 1) e lt in
    record { year = h.0; start = h.1; before = rw e lt }
picked d false true p q =
    record { year = d.year_in; start = omega (arith, signed_arith); before = omega (arith, signed_arith) }
picked d false false p q =
    let ge : iso_year_start (d.year +ℤ pos 1) ≤ℤ epoch_day d = omega (arith, signed_arith) in
    let apart : ¬ (d.year +ℤ pos 1 ≡ pos 10000) = λ e. omega (arith, signed_arith, in_year_last d (d.year +ℤ pos 1) e) in
    let year : IsYear (d.year +ℤ pos 1) = omega (arith, signed_arith, d.year_in) in
    record { year = year; start = ge; before = in_year_after d (d.year +ℤ pos 1) year refl }

pub iso_year_is : (d : Date) → IsInYear (iso_year d) (epoch_day d)
unfolding iso_year
iso_year_is d = picked d _ _ refl refl

monday_zero_bound : (w : Weekday) → monday_zero w < 7
monday_zero_bound Monday = omega arith
monday_zero_bound Tuesday = omega arith
monday_zero_bound Wednesday = omega arith
monday_zero_bound Thursday = omega arith
monday_zero_bound Friday = omega arith
monday_zero_bound Saturday = omega arith
monday_zero_bound Sunday = omega arith

-- a week date's year has its day
week_date_in : (w : ISOWeekDate) (day : ℤ) → iso_epoch_day w ≡ day → IsInYear w.year day
unfolding days_from_iso
week_date_in w day e =
    let next = weeks_in_year-next w.year (w.year +ℤ pos 1) w.year_in refl in
    record {
      year = w.year_in;
      start = omega (arith, signed_arith);
      before =
          omega (arith, signed_arith, next.0, w.week_in, monday_zero_bound w.weekday);
    }

week_is : (start day : ℤ) (week place : ℕ) → 1 ≤ week → place < 7 → start +ℤ pos ((week - 1) * 7 + place) ≡ day
    → week ≡ unsigned_abs (day -ℤ start) / 7 + 1
week_is start day week place low high e = omega (arith, signed_arith, one_part (day -ℤ start))

-- its year and week are the date's
pub week_date_is : (d : Date) (w : ISOWeekDate) → iso_epoch_day w ≡ epoch_day d → (w.year ≡ iso_year d) × (w.week ≡ iso_week d)
unfolding iso_week days_from_iso
week_date_is d w e =
    let same : w.year ≡ iso_year d = year_only _ _ _ (week_date_in w _ e) (iso_year_is d) in
    (same, rw (← same) (week_is _ _ w.week (monday_zero w.weekday) w.week_in.0 (monday_zero_bound w.weekday) e))
