-- Date times by their parts.
use Rattle.std.proofs.Common.{◌≡◌, inl, inr, ℕ, refl, ap, ◌∙◌, ℤ, pos, neg_ℤ, subst}
use Rattle.std.proofs.Math.Bridge.{le_prop}
use Rattle.std.proofs.Math.Dec.{T_prop}
use Rattle.jiff_core.specs.Calendar.{IsCivilDate, days_in_month}
use Rattle.jiff_core.specs.Timestamp.{IsOffsetSeconds}
use Rattle.jiff_core.specs.declared.civil.date.Date.{Date as CivilDate}
use Rattle.jiff_core.specs.declared.civil.time.Time.{Time as CivilTime}
use Rattle.jiff_core.specs.declared.offset.Offset.{Offset}
use Rattle.jiff_core.proofs.DateLemmas.{civil}
use Rattle.liquid_dates.specs.declared.date_time.DateTime.{DateTime}
use Rattle.liquid_dates.specs.meaning.DateText.{SameDate, SameClock, SameDateTime}
use Rattle.liquid_dates.specs.meaning.Instant.{civil_date, civil_time, nanosecond, offset_seconds, IsClockTime}
use Rattle.filter_dates.proofs.Deciding.{Either, Decided, both, all_three, all_four, at_most, below, at_most_z}

abbrev pub date_of : (y : ℤ) (m d : ℕ) → IsCivilDate y m d → CivilDate
date_of y m d h = record { year = y; month = m; day = d; year_in = h.0; month_in = h.1; day_in = h.2 }

abbrev pub time_of : (hour minute second nano : ℕ) → IsClockTime hour minute second nano → CivilTime
time_of hour minute second nano h =
    record {
      hour = hour;
      minute = minute;
      second = second;
      subsec_nanosecond = nano;
      hour_in = h.0;
      minute_in = h.1;
      second_in = h.2;
      subsec_in = h.3;
    }

abbrev offset_of : (z : ℤ) → IsOffsetSeconds z → Offset
offset_of z h = record { seconds = z; in_range = h }

abbrev pub date_time_of : CivilDate → CivilTime → (z : ℤ) → IsOffsetSeconds z → DateTime
date_time_of d t z h = record { local = record { date = d; time = t }; offset = offset_of z h }

-- each number is checked
pub is_civil : (y : ℤ) (m d : ℕ) → Either (IsCivilDate y m d)
is_civil y m d =
    all_three (both (at_most_z (neg_ℤ (pos 9999)) y) (at_most_z y (pos 9999))) (both (at_most 1 m) (at_most m 12))
    (both (at_most 1 d) (at_most d (days_in_month y m)))

is_clock : (hour minute second nano : ℕ) → Either (IsClockTime hour minute second nano)
is_clock hour minute second nano = all_four (below hour 24) (below minute 60) (below second 60) (below nano 1_000_000_000)

is_offset : (z : ℤ) → Either (IsOffsetSeconds z)
is_offset z = both (at_most_z (neg_ℤ (pos 93_599)) z) (at_most_z z (pos 93_599))

-- a date has these parts
abbrev pub IsOn : ℤ → ℕ → ℕ → CivilDate → Type 0
IsOn y m d date = (date.year ≡ y) × (date.month ≡ m) × (date.day ≡ d)

pub on_decided : (y : ℤ) (m d : ℕ) → Decided (IsOn y m d)
on_decided y m d = by_cases (is_civil y m d)
  where
    by_cases : Either (IsCivilDate y m d) → Decided (IsOn y m d)
    by_cases (inl h) = inl (date_of y m d h, (refl, refl, refl))
    by_cases (inr fails) = inr (λ date is. fails (rw (← is.0, ← is.1, ← is.2) (civil date)))

-- a date time has these parts
pub record IsAt (y : ℤ) (m d hour minute second nano : ℕ) (z : ℤ) (dt : DateTime) : Type 0 where
  pub of_date : IsOn y m d (civil_date dt)
  pub of_hour : (civil_time dt).hour ≡ hour
  pub of_minute : (civil_time dt).minute ≡ minute
  pub of_second : (civil_time dt).second ≡ second
  pub of_nano : nanosecond dt ≡ nano
  pub of_offset : offset_seconds dt ≡ z

-- a property of the parts is one of the parts of the date time
moved : (P : ℤ → ℕ → ℕ → ℕ → ℕ → ℕ → ℕ → ℤ → Type 0) (y₁ y₂ : ℤ) (m₁ m₂ d₁ d₂ h₁ h₂ i₁ i₂ s₁ s₂ n₁ n₂ : ℕ) (z₁ z₂ : ℤ) → y₁ ≡ y₂ → m₁ ≡ m₂
    → d₁ ≡ d₂ → h₁ ≡ h₂ → i₁ ≡ i₂ → s₁ ≡ s₂ → n₁ ≡ n₂ → z₁ ≡ z₂ → P y₂ m₂ d₂ h₂ i₂ s₂ n₂ z₂ → P y₁ m₁ d₁ h₁ i₁ s₁ n₁ z₁
moved P y₁ y₂ m₁ m₂ d₁ d₂ h₁ h₂ i₁ i₂ s₁ s₂ n₁ n₂ z₁ z₂ y m d h i s n z p = rw (y, m, d, h, i, s, n, z) p

pub of_parts : (P : ℤ → ℕ → ℕ → ℕ → ℕ → ℕ → ℕ → ℤ → Type 0) (y : ℤ) (m d h i s n : ℕ) (z : ℤ) (dt : DateTime) → IsAt y m d h i s n z dt
    → P y m d h i s n z → P (civil_date dt).year (civil_date dt).month (civil_date dt).day (civil_time dt).hour (civil_time dt).minute
    (civil_time dt).second (nanosecond dt) (offset_seconds dt)
of_parts P y m d h i s n z dt is p =
    moved P _ y _ m _ d _ h _ i _ s _ n _ z is.of_date.0 is.of_date.1 is.of_date.2 is.of_hour is.of_minute is.of_second is.of_nano
    is.of_offset p

clocked : (hour minute second nano : ℕ) (t : CivilTime) → t.hour ≡ hour → t.minute ≡ minute → t.second ≡ second → t.subsec_nanosecond ≡ nano
    → IsClockTime hour minute second nano
clocked hour minute second nano t e f g h = rw (← e, ← f, ← g, ← h) (t.hour_in, t.minute_in, t.second_in, t.subsec_in)

offsetted : (z : ℤ) (o : Offset) → o.seconds ≡ z → IsOffsetSeconds z
offsetted z o e = rw (← e) o.in_range

pub at_decided : (y : ℤ) (m d hour minute second nano : ℕ) (z : ℤ) → Decided (IsAt y m d hour minute second nano z)
at_decided y m d hour minute second nano z = by_cases (on_decided y m d) (is_clock hour minute second nano) (is_offset z)
  where
    by_cases : Decided (IsOn y m d) → Either (IsClockTime hour minute second nano) → Either (IsOffsetSeconds z)
        → Decided (IsAt y m d hour minute second nano z)
    by_cases (inl (date, on)) (inl clock) (inl offset) =
        inl (
          date_time_of date (time_of hour minute second nano clock) z offset,
          record { of_date = on; of_hour = refl; of_minute = refl; of_second = refl; of_nano = refl; of_offset = refl },
        )
    by_cases (inl _) (inl _) (inr fails) = inr (λ dt is. fails (offsetted z dt.offset is.of_offset))
    by_cases (inl _) (inr fails) _ =
        inr (λ dt is. fails (clocked hour minute second nano (civil_time dt) is.of_hour is.of_minute is.of_second is.of_nano))
    by_cases (inr fails) _ _ = inr (λ dt is. fails (civil_date dt) is.of_date)

-- two with the same parts are the same
date_again : (y : ℤ) (m d : ℕ) (h k : IsCivilDate y m d) → date_of y m d h ≡ date_of y m d k
date_again y m d h k = ap (date_of y m d) (prop h k)
  where
    prop : (a b : IsCivilDate y m d) → a ≡ b
    prop = hlevel (le_prop, T_prop)

date_moved : (y y₂ : ℤ) (m m₂ d d₂ : ℕ) (h : IsCivilDate y m d) (k : IsCivilDate y₂ m₂ d₂) → y ≡ y₂ → m ≡ m₂ → d ≡ d₂
    → date_of y m d h ≡ date_of y₂ m₂ d₂ k
date_moved y y₂ m m₂ d d₂ h k e f g = by_year k
  where
    by_day : (k : IsCivilDate y m d₂) → date_of y m d h ≡ date_of y m d₂ k
    by_day = subst (λ (x : ℕ). (k : IsCivilDate y m x) → date_of y m d h ≡ date_of y m x k) g (date_again y m d h)

    by_month : (k : IsCivilDate y m₂ d₂) → date_of y m d h ≡ date_of y m₂ d₂ k
    by_month = subst (λ (x : ℕ). (k : IsCivilDate y x d₂) → date_of y m d h ≡ date_of y x d₂ k) f by_day

    by_year : (k : IsCivilDate y₂ m₂ d₂) → date_of y m d h ≡ date_of y₂ m₂ d₂ k
    by_year = subst (λ (x : ℤ). (k : IsCivilDate x m₂ d₂) → date_of y m d h ≡ date_of x m₂ d₂ k) e by_month

pub same_date_is : (a b : CivilDate) → SameDate a b → a ≡ b
same_date_is a b h =
    date_moved a.year b.year a.month b.month a.day b.day (a.year_in, a.month_in, a.day_in) (b.year_in, b.month_in, b.day_in) h.0 h.1 h.2

time_again : (hour minute second nano : ℕ) (h k : IsClockTime hour minute second nano)
    → time_of hour minute second nano h ≡ time_of hour minute second nano k
time_again hour minute second nano h k = ap (time_of hour minute second nano) (prop h k)
  where
    prop : (a b : IsClockTime hour minute second nano) → a ≡ b
    prop = hlevel (le_prop, T_prop)

same_time_is : (a b : CivilTime) → SameClock a b → a.subsec_nanosecond ≡ b.subsec_nanosecond → a ≡ b
same_time_is a b h n = by_hour (b.hour_in, b.minute_in, b.second_in, b.subsec_in)
  where
    by_nano : (k : IsClockTime a.hour a.minute a.second b.subsec_nanosecond) → a ≡ time_of a.hour a.minute a.second b.subsec_nanosecond k
    by_nano =
        subst (λ (x : ℕ). (k : IsClockTime a.hour a.minute a.second x) → a ≡ time_of a.hour a.minute a.second x k) n
        (time_again a.hour a.minute a.second a.subsec_nanosecond (a.hour_in, a.minute_in, a.second_in, a.subsec_in))

    by_second : (k : IsClockTime a.hour a.minute b.second b.subsec_nanosecond) → a ≡ time_of a.hour a.minute b.second b.subsec_nanosecond k
    by_second =
        subst (λ (x : ℕ). (k : IsClockTime a.hour a.minute x b.subsec_nanosecond) → a ≡ time_of a.hour a.minute x b.subsec_nanosecond k) h.2
        by_nano

    by_minute : (k : IsClockTime a.hour b.minute b.second b.subsec_nanosecond) → a ≡ time_of a.hour b.minute b.second b.subsec_nanosecond k
    by_minute =
        subst (λ (x : ℕ). (k : IsClockTime a.hour x b.second b.subsec_nanosecond) → a ≡ time_of a.hour x b.second b.subsec_nanosecond k) h.1
        by_second

    by_hour : (k : IsClockTime b.hour b.minute b.second b.subsec_nanosecond) → a ≡ time_of b.hour b.minute b.second b.subsec_nanosecond k
    by_hour =
        subst (λ (x : ℕ). (k : IsClockTime x b.minute b.second b.subsec_nanosecond) → a ≡ time_of x b.minute b.second b.subsec_nanosecond k)
        h.0 by_minute

same_offset_is : (a b : Offset) → a.seconds ≡ b.seconds → a ≡ b
same_offset_is a b e = by_seconds b.in_range
  where
    prop : (z : ℤ) (h k : IsOffsetSeconds z) → h ≡ k
    prop z = hlevel (le_prop, T_prop)

    by_seconds : (k : IsOffsetSeconds b.seconds) → a ≡ offset_of b.seconds k
    by_seconds =
        subst (λ (z : ℤ). (k : IsOffsetSeconds z) → a ≡ offset_of z k) e (λ k. ap (offset_of a.seconds) (prop a.seconds a.in_range k))

pub same_date_time_is : (a b : DateTime) → SameDateTime a b → a ≡ b
same_date_time_is a b h =
    ap (λ (d : CivilDate). record { local = record { date = d; time = civil_time a }; offset = a.offset })
    (same_date_is (civil_date a) (civil_date b) h.0)
    ∙ ap (λ (t : CivilTime). record { local = record { date = civil_date b; time = t }; offset = a.offset })
    (same_time_is (civil_time a) (civil_time b) h.1 h.2)
    ∙ ap (λ (o : Offset). record { local = b.local; offset = o }) (same_offset_is a.offset b.offset h.3)
