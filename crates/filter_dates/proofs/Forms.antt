-- Each form of a date and of a date time is decided.
use Rattle.std.proofs.Common.{◌≡◌, inl, inr, ℕ, List, refl, sym, ap, ◌∙◌, Option, Some, None, ℤ, subst, unwrap_or}
use Rattle.jiff_core.specs.declared.civil.date.Date.{Date as CivilDate}
use Rattle.liquid_dates.specs.declared.date_time.DateTime.{DateTime}
use Rattle.liquid_dates.specs.meaning.DateText.{
  first,
  iso_date,
  long_date,
  short_date,
  date_forms,
  iso_date_time,
  fraction_date_time,
  long_date_time,
  short_date_time,
  us_date_time,
  weekday_date_time,
  day_forms,
  date_time_forms,
}
use Rattle.liquid_dates.specs.meaning.Instant.{civil_date, civil_time, nanosecond, offset_seconds}
use Rattle.liquid_dates.specs.meaning.Names.{month_name, short_month_name}
use Rattle.liquid_dates.specs.steps.DateReader.{
  Read,
  whole_of,
  joined_at,
  read_iso_date,
  read_long_date,
  read_short_date,
  read_offset,
  read_iso_stamp,
  read_fraction_stamp,
  read_long_stamp,
  read_short_stamp,
  read_us_stamp,
  read_weekday_stamp,
}
use Rattle.liquid_dates.proofs.PairForms.{
  Form,
  joined,
  dashed,
  day_month,
  hms,
  offset_form,
  timed_dashed,
  timed_fraction,
  timed_day_month,
  timed_slashed,
  timed_weekday,
}
use Rattle.liquid_dates.proofs.DateTextLemmas.{Reads, joined_reads, whole_sound, whole_complete, dashed_reads, long_reads, short_reads}
use Rattle.liquid_dates.proofs.TimedLemmas.{
  offset_reads,
  timed_dashed_reads,
  timed_fraction_reads,
  timed_long_reads,
  timed_short_reads,
  timed_slashed_reads,
  timed_weekday_reads,
}
use Rattle.filter_dates.proofs.Deciding.{Decided, same_decided, first_decided}
use Rattle.filter_dates.proofs.Parts.{IsOn, on_decided, IsAt, at_decided, of_parts}

-- a string has the form of a value that means this
abbrev Written : {V A : Type 0} → Form V → (V → A → Type 0) → List ℕ → A → Type 0
Written {V = V} F Is text a = (v : V) × F text v × Is v a

written_decided : {V A : Type 0} (F : Form V) (r : List ℕ → Read V) → Reads F r → (Is : V → A → Type 0) → ((v : V) → Decided (Is v))
    → (text : List ℕ) → Decided (Written F Is text)
written_decided {V = V} {A = A} F r reads Is made text = by_cases (whole_of (r text)) refl
  where
    by_value : (v : V) → whole_of (r text) ≡ Some v → Decided (Is v) → Decided (Written F Is text)
    by_value v e (inl (a, is)) = inl (a, (v, whole_sound F r reads text v e, is))
    by_value v e (inr none) = inr (λ a h.
        let same : h.0 ≡ v = ap (λ o. unwrap_or o v) (sym (whole_complete F r reads text h.0 h.1) ∙ e) in
        none a (subst (λ (w : V). Is w a) same h.2))

    by_cases : (o : Option V) → whole_of (r text) ≡ o → Decided (Written F Is text)
    by_cases None e = inr (λ a h. let s = whole_complete F r reads text h.0 h.1 in cc)
    by_cases (Some v) e = by_value v e (made v)

-- dates
abbrev day_first : ℕ × (ℕ × ℤ) → CivilDate → Type 0
day_first v = IsOn v.1.1 v.1.0 v.0

day_month_is : (name : ℕ → List ℕ) (text : List ℕ) (d : CivilDate) → Written (day_month name) day_first text d
    → day_month name text (d.day, (d.month, d.year))
day_month_is name text d ((day, (month, year)), f, is) = subst (λ (v : ℕ × (ℕ × ℤ)). day_month name text v) (rw (is.0, is.1, is.2) refl) f

long_decided : (text : List ℕ) → Decided (long_date text)
unfolding long_date
long_decided text =
    same_decided (Written (day_month month_name) day_first text) (long_date text) (day_month_is month_name text)
    (λ d h. ((d.day, (d.month, d.year)), h, (refl, refl, refl)))
    (written_decided (day_month month_name) read_long_date long_reads day_first (λ v. on_decided v.1.1 v.1.0 v.0) text)

short_decided : (text : List ℕ) → Decided (short_date text)
unfolding short_date
short_decided text =
    same_decided (Written (day_month short_month_name) day_first text) (short_date text) (day_month_is short_month_name text)
    (λ d h. ((d.day, (d.month, d.year)), h, (refl, refl, refl)))
    (written_decided (day_month short_month_name) read_short_date short_reads day_first (λ v. on_decided v.1.1 v.1.0 v.0) text)

abbrev year_first : ℤ × (ℕ × ℕ) → CivilDate → Type 0
year_first v = IsOn v.0 v.1.0 v.1.1

dashed_is : (text : List ℕ) (d : CivilDate) → Written dashed year_first text d → dashed text (d.year, (d.month, d.day))
dashed_is text d ((year, (month, day)), f, is) = subst (λ (v : ℤ × (ℕ × ℕ)). dashed text v) (rw (is.0, is.1, is.2) refl) f

dashed_decided : (text : List ℕ) → Decided (iso_date text)
unfolding iso_date
dashed_decided text =
    same_decided (Written dashed year_first text) (iso_date text) (dashed_is text)
    (λ d h. ((d.year, (d.month, d.day)), h, (refl, refl, refl)))
    (written_decided dashed read_iso_date dashed_reads year_first (λ v. on_decided v.0 v.1.0 v.1.1) text)

pub date_decided : (text : List ℕ) → Decided (date_forms text)
date_decided text =
    first_decided long_date (first short_date iso_date) text (long_decided text)
    (first_decided short_date iso_date text (short_decided text) (dashed_decided text))

-- date times
here : (dt : DateTime) → IsAt (civil_date dt).year (civil_date dt).month (civil_date dt).day (civil_time dt).hour (civil_time dt).minute
    (civil_time dt).second (nanosecond dt) (offset_seconds dt) dt
here dt = record { of_date = (refl, refl, refl); of_hour = refl; of_minute = refl; of_second = refl; of_nano = refl; of_offset = refl }

whole_second : (dt : DateTime) → nanosecond dt ≡ 0 → IsAt (civil_date dt).year (civil_date dt).month (civil_date dt).day
    (civil_time dt).hour (civil_time dt).minute (civil_time dt).second 0 (offset_seconds dt) dt
whole_second dt e =
    record { of_date = (refl, refl, refl); of_hour = refl; of_minute = refl; of_second = refl; of_nano = e; of_offset = refl }

module _ {V : Type 0} (F : Form V) (r : List ℕ → Read V) (reads : Reads F r) (Is : V → ℤ → DateTime → Type 0)
    (made : (v : V) (z : ℤ) → Decided (Is v z)) where
  -- with an offset
  abbrev Timed : List ℕ → DateTime → Type 0
  Timed = Written {V = V × ℤ} (joined F 32 offset_form) (λ p. Is p.0 p.1)

  timed_decided : (text : List ℕ) → Decided (Timed text)
  timed_decided text =
      written_decided (joined F 32 offset_form) (joined_at r 32 read_offset)
      (joined_reads F r 32 offset_form read_offset reads offset_reads refl) (λ p. Is p.0 p.1) (λ p. made p.0 p.1) text

-- the parts of a date time, in the order of a form
abbrev Ymd : Type 0
Ymd = (ℤ × (ℕ × ℕ)) × (ℕ × (ℕ × ℕ))

abbrev Dmy : Type 0
Dmy = (ℕ × (ℕ × ℤ)) × (ℕ × (ℕ × ℕ))

abbrev by_year : Ymd → ℤ → DateTime → Type 0
by_year v z = IsAt v.0.0 v.0.1.0 v.0.1.1 v.1.0 v.1.1.0 v.1.1.1 0 z

abbrev by_day : Dmy → ℤ → DateTime → Type 0
by_day v z = IsAt v.0.1.1 v.0.1.0 v.0.0 v.1.0 v.1.1.0 v.1.1.1 0 z

abbrev by_month : Dmy → ℤ → DateTime → Type 0
by_month v z = IsAt v.0.1.1 v.0.0 v.0.1.0 v.1.0 v.1.1.0 v.1.1.1 0 z

year_made : (v : Ymd) (z : ℤ) → Decided (by_year v z)
year_made v z = at_decided v.0.0 v.0.1.0 v.0.1.1 v.1.0 v.1.1.0 v.1.1.1 0 z

day_made : (v : Dmy) (z : ℤ) → Decided (by_day v z)
day_made v z = at_decided v.0.1.1 v.0.1.0 v.0.0 v.1.0 v.1.1.0 v.1.1.1 0 z

month_made : (v : Dmy) (z : ℤ) → Decided (by_month v z)
month_made v z = at_decided v.0.1.1 v.0.0 v.0.1.0 v.1.0 v.1.1.0 v.1.1.1 0 z

dashed_time_is : (text : List ℕ) (dt : DateTime) → Timed timed_dashed read_iso_stamp timed_dashed_reads by_year year_made text dt
    → iso_date_time text dt
unfolding iso_date_time
dashed_time_is text dt (p, f, is) = (
  of_parts (λ y m d h i s n z. joined timed_dashed 32 offset_form text (((y, (m, d)), (h, (i, s))), z)) p.0.0.0 p.0.0.1.0 p.0.0.1.1
      p.0.1.0 p.0.1.1.0 p.0.1.1.1 0 p.1 dt is f,
  is.of_nano,
)

dashed_time_decided : (text : List ℕ) → Decided (iso_date_time text)
unfolding iso_date_time
dashed_time_decided text =
    same_decided (Timed timed_dashed read_iso_stamp timed_dashed_reads by_year year_made text) (iso_date_time text)
    (dashed_time_is text)
    (λ dt h. (
      ((((civil_date dt).year, ((civil_date dt).month, (civil_date dt).day)), hms dt.local), offset_seconds dt),
      h.0,
      whole_second dt h.1,
    ))
    (timed_decided timed_dashed read_iso_stamp timed_dashed_reads by_year year_made text)

long_time_is : (text : List ℕ) (dt : DateTime) → Timed (timed_day_month month_name) read_long_stamp timed_long_reads by_day day_made text dt
    → long_date_time text dt
unfolding long_date_time
long_time_is text dt (p, f, is) = (
  of_parts (λ y m d h i s n z. joined (timed_day_month month_name) 32 offset_form text (((d, (m, y)), (h, (i, s))), z)) p.0.0.1.1
      p.0.0.1.0 p.0.0.0 p.0.1.0 p.0.1.1.0 p.0.1.1.1 0 p.1 dt is f,
  is.of_nano,
)

long_time_decided : (text : List ℕ) → Decided (long_date_time text)
unfolding long_date_time
long_time_decided text =
    same_decided (Timed (timed_day_month month_name) read_long_stamp timed_long_reads by_day day_made text) (long_date_time text)
    (long_time_is text)
    (λ dt h. (
      ((((civil_date dt).day, ((civil_date dt).month, (civil_date dt).year)), hms dt.local), offset_seconds dt),
      h.0,
      whole_second dt h.1,
    ))
    (timed_decided (timed_day_month month_name) read_long_stamp timed_long_reads by_day day_made text)

short_time_is : (text : List ℕ) (dt : DateTime)
    → Timed (timed_day_month short_month_name) read_short_stamp timed_short_reads by_day day_made
    text dt → short_date_time text dt
unfolding short_date_time
short_time_is text dt (p, f, is) = (
  of_parts (λ y m d h i s n z. joined (timed_day_month short_month_name) 32 offset_form text (((d, (m, y)), (h, (i, s))), z)) p.0.0.1.1
      p.0.0.1.0 p.0.0.0 p.0.1.0 p.0.1.1.0 p.0.1.1.1 0 p.1 dt is f,
  is.of_nano,
)

short_time_decided : (text : List ℕ) → Decided (short_date_time text)
unfolding short_date_time
short_time_decided text =
    same_decided (Timed (timed_day_month short_month_name) read_short_stamp timed_short_reads by_day day_made text) (short_date_time text)
    (short_time_is text)
    (λ dt h. (
      ((((civil_date dt).day, ((civil_date dt).month, (civil_date dt).year)), hms dt.local), offset_seconds dt),
      h.0,
      whole_second dt h.1,
    ))
    (timed_decided (timed_day_month short_month_name) read_short_stamp timed_short_reads by_day day_made text)

slashed_time_is : (text : List ℕ) (dt : DateTime) → Timed timed_slashed read_us_stamp timed_slashed_reads by_month month_made text dt
    → us_date_time text dt
unfolding us_date_time
slashed_time_is text dt (p, f, is) = (
  of_parts (λ y m d h i s n z. joined timed_slashed 32 offset_form text (((m, (d, y)), (h, (i, s))), z)) p.0.0.1.1 p.0.0.0 p.0.0.1.0
      p.0.1.0 p.0.1.1.0 p.0.1.1.1 0 p.1 dt is f,
  is.of_nano,
)

slashed_time_decided : (text : List ℕ) → Decided (us_date_time text)
unfolding us_date_time
slashed_time_decided text =
    same_decided (Timed timed_slashed read_us_stamp timed_slashed_reads by_month month_made text) (us_date_time text)
    (slashed_time_is text)
    (λ dt h. (
      ((((civil_date dt).month, ((civil_date dt).day, (civil_date dt).year)), hms dt.local), offset_seconds dt),
      h.0,
      whole_second dt h.1,
    ))
    (timed_decided timed_slashed read_us_stamp timed_slashed_reads by_month month_made text)

-- with a fraction
abbrev Exact : Type 0
Exact = (ℤ × (ℕ × ℕ)) × ((ℕ × (ℕ × ℕ)) × ℕ)

abbrev exactly : Exact → ℤ → DateTime → Type 0
exactly v z = IsAt v.0.0 v.0.1.0 v.0.1.1 v.1.0.0 v.1.0.1.0 v.1.0.1.1 v.1.1 z

exact_made : (v : Exact) (z : ℤ) → Decided (exactly v z)
exact_made v z = at_decided v.0.0 v.0.1.0 v.0.1.1 v.1.0.0 v.1.0.1.0 v.1.0.1.1 v.1.1 z

fraction_time_is : (text : List ℕ) (dt : DateTime)
    → Timed timed_fraction read_fraction_stamp timed_fraction_reads exactly exact_made text dt
    → fraction_date_time text dt
unfolding fraction_date_time
fraction_time_is text dt (p, f, is) =
    of_parts (λ y m d h i s n z. joined timed_fraction 32 offset_form text (((y, (m, d)), ((h, (i, s)), n)), z)) p.0.0.0 p.0.0.1.0 p.0.0.1.1
    p.0.1.0.0 p.0.1.0.1.0 p.0.1.0.1.1 p.0.1.1 p.1 dt is f

fraction_time_decided : (text : List ℕ) → Decided (fraction_date_time text)
unfolding fraction_date_time
fraction_time_decided text =
    same_decided (Timed timed_fraction read_fraction_stamp timed_fraction_reads exactly exact_made text) (fraction_date_time text)
    (fraction_time_is text)
    (λ dt h. (
      ((((civil_date dt).year, ((civil_date dt).month, (civil_date dt).day)), (hms dt.local, nanosecond dt)), offset_seconds dt),
      h,
      here dt,
    ))
    (timed_decided timed_fraction read_fraction_stamp timed_fraction_reads exactly exact_made text)

-- with a weekday, which may be any
abbrev Named : Type 0
Named = ℕ × (ℕ × (ℕ × ((ℕ × (ℕ × ℕ)) × ℤ)))

abbrev by_name : Named → ℤ → DateTime → Type 0
by_name v z = IsAt v.1.1.1.1 v.1.0 v.1.1.0 v.1.1.1.0.0 v.1.1.1.0.1.0 v.1.1.1.0.1.1 0 z

name_made : (v : Named) (z : ℤ) → Decided (by_name v z)
name_made v z = at_decided v.1.1.1.1 v.1.0 v.1.1.0 v.1.1.1.0.0 v.1.1.1.0.1.0 v.1.1.1.0.1.1 0 z

weekday_time_is : (text : List ℕ) (dt : DateTime) → Timed timed_weekday read_weekday_stamp timed_weekday_reads by_name name_made text dt
    → weekday_date_time text dt
unfolding weekday_date_time
weekday_time_is text dt (p, f, is) = (
  p.0.0,
  of_parts (λ y m d h i s n z. joined timed_weekday 32 offset_form text ((p.0.0, (m, (d, ((h, (i, s)), y)))), z)) p.0.1.1.1.1
      p.0.1.0 p.0.1.1.0 p.0.1.1.1.0.0 p.0.1.1.1.0.1.0 p.0.1.1.1.0.1.1 0 p.1 dt is f,
  is.of_nano,
)

weekday_time_decided : (text : List ℕ) → Decided (weekday_date_time text)
unfolding weekday_date_time
weekday_time_decided text =
    same_decided (Timed timed_weekday read_weekday_stamp timed_weekday_reads by_name name_made text) (weekday_date_time text)
    (weekday_time_is text)
    (λ dt h. (
      ((h.0, ((civil_date dt).month, ((civil_date dt).day, (hms dt.local, (civil_date dt).year)))), offset_seconds dt),
      h.1,
      whole_second dt h.2,
    ))
    (timed_decided timed_weekday read_weekday_stamp timed_weekday_reads by_name name_made text)

day_forms_decided : (text : List ℕ) → Decided (day_forms text)
day_forms_decided text =
    first_decided long_date_time (first short_date_time (first us_date_time weekday_date_time)) text (long_time_decided text)
    (first_decided short_date_time (first us_date_time weekday_date_time) text (short_time_decided text)
    (first_decided us_date_time weekday_date_time text (slashed_time_decided text) (weekday_time_decided text)))

pub date_time_decided : (text : List ℕ) → Decided (date_time_forms text)
date_time_decided text =
    first_decided iso_date_time (first fraction_date_time day_forms) text (dashed_time_decided text)
    (first_decided fraction_date_time day_forms text (fraction_time_decided text) (day_forms_decided text))
