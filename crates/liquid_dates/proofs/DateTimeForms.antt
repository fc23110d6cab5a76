-- Whole texts that are date times, form by form.
use Rattle.std.proofs.Common.{◌≡◌, inl, inr, ℕ, List, refl, sym, ap, ◌∙◌, Bool, Option, Some, None, option_map, ℤ, subst, IfSome}
use Rattle.std.specs.Borrow.{Bor}
use Rattle.liquid_dates.specs.declared.date_time.DateTime.{DateTime}
use Rattle.liquid_dates.specs.declared.stamps.Stamp.{Stamp}
use Rattle.liquid_dates.specs.meaning.Instant.{civil_date, civil_time, nanosecond, offset_seconds}
use Rattle.liquid_dates.specs.meaning.Names.{month_name, short_month_name}
use Rattle.liquid_dates.specs.meaning.DateText.{
  iso_date_time,
  fraction_date_time,
  long_date_time,
  short_date_time,
  us_date_time,
  weekday_date_time,
  date_time_forms,
  with_given_offset,
  SameClock,
  SameDateTime,
}
use Rattle.liquid_dates.proofs.PairForms.{
  hms,
  joined,
  offset_form,
  timed_dashed,
  timed_fraction,
  timed_day_month,
  timed_slashed,
  timed_weekday,
}
use Rattle.liquid_dates.specs.steps.DateReader.{
  read_of,
  stamp_clock,
  stamp_by_year,
  stamp_by_fraction,
  stamp_by_day,
  stamp_by_month,
  stamp_by_weekday,
  read_iso_stamp,
  read_fraction_stamp,
  read_long_stamp,
  read_short_stamp,
  read_us_stamp,
  read_weekday_stamp,
  HasStamp,
  IsStamped,
  without_weekday,
}
use Rattle.liquid_dates.proofs.DateTextLemmas.{some_pair}
use Rattle.liquid_dates.proofs.TimedLemmas.{
  timed_dashed_reads,
  timed_fraction_reads,
  timed_long_reads,
  timed_short_reads,
  timed_slashed_reads,
  timed_weekday_reads,
  stamped_found,
  stamped_whole,
  joined_once,
}

-- the same time of day shows the same on a clock
same_clock : (a b : DateTime) → hms a.local ≡ hms b.local → SameClock (civil_time a) (civil_time b)
same_clock a b e = (ap (λ p. p.0) e, ap (λ p. p.1.0) e, ap (λ p. p.1.1) e)

abbrev by_year : DateTime → (ℤ × (ℕ × ℕ)) × (ℕ × (ℕ × ℕ))
by_year dt = (((civil_date dt).year, ((civil_date dt).month, (civil_date dt).day)), hms dt.local)

abbrev stamp_year : Stamp → (ℤ × (ℕ × ℕ)) × (ℕ × (ℕ × ℕ))
stamp_year s = ((s.date.year, (s.date.month, s.date.day)), stamp_clock s)

stamp_year_is : (s : Stamp) (dt : DateTime) → HasStamp s dt → stamp_year s ≡ by_year dt
stamp_year_is s dt h = rw (h.0, h.1, h.2, h.3, h.4, h.5) refl

abbrev by_day : DateTime → (ℕ × (ℕ × ℤ)) × (ℕ × (ℕ × ℕ))
by_day dt = (((civil_date dt).day, ((civil_date dt).month, (civil_date dt).year)), hms dt.local)

abbrev stamp_day : Stamp → (ℕ × (ℕ × ℤ)) × (ℕ × (ℕ × ℕ))
stamp_day s = ((s.date.day, (s.date.month, s.date.year)), stamp_clock s)

stamp_day_is : (s : Stamp) (dt : DateTime) → HasStamp s dt → stamp_day s ≡ by_day dt
stamp_day_is s dt h = rw (h.0, h.1, h.2, h.3, h.4, h.5) refl

abbrev by_month : DateTime → (ℕ × (ℕ × ℤ)) × (ℕ × (ℕ × ℕ))
by_month dt = (((civil_date dt).month, ((civil_date dt).day, (civil_date dt).year)), hms dt.local)

abbrev stamp_month : Stamp → (ℕ × (ℕ × ℤ)) × (ℕ × (ℕ × ℕ))
stamp_month s = ((s.date.month, (s.date.day, s.date.year)), stamp_clock s)

stamp_month_is : (s : Stamp) (dt : DateTime) → HasStamp s dt → stamp_month s ≡ by_month dt
stamp_month_is s dt h = rw (h.0, h.1, h.2, h.3, h.4, h.5) refl

abbrev by_fraction : DateTime → (ℤ × (ℕ × ℕ)) × ((ℕ × (ℕ × ℕ)) × ℕ)
by_fraction dt = (((civil_date dt).year, ((civil_date dt).month, (civil_date dt).day)), (hms dt.local, nanosecond dt))

abbrev stamp_fraction : Stamp → (ℤ × (ℕ × ℕ)) × ((ℕ × (ℕ × ℕ)) × ℕ)
stamp_fraction s = ((s.date.year, (s.date.month, s.date.day)), (stamp_clock s, s.nanosecond))

stamp_fraction_is : (s : Stamp) (dt : DateTime) → HasStamp s dt → stamp_fraction s ≡ by_fraction dt
stamp_fraction_is s dt h = rw (h.0, h.1, h.2, h.3, h.4, h.5, h.6) refl

pub dashed_found : (given : Bool) (text : List ℕ) (read : Option (Stamp × Bor (List ℕ))) (dt : DateTime)
    → option_map stamp_by_year (read_of read) ≡ read_iso_stamp text → IfSome read (λ p. p.0.nanosecond ≡ 0) → IsStamped given read dt
    → iso_date_time (with_given_offset given text) dt
unfolding iso_date_time
dashed_found given text None dt e w h = absurd h
dashed_found given text (Some (s, rest)) dt e w h = (
  subst (λ v. joined timed_dashed 32 offset_form (with_given_offset given text) (v, offset_seconds dt)) (stamp_year_is s dt h.1)
      (stamped_found timed_dashed read_iso_stamp timed_dashed_reads given text (stamp_year s) rest.now (offset_seconds dt) (sym e) h.0),
  sym h.1.6 ∙ w,
)

pub dashed_whole : (given : Bool) (text : List ℕ) (read : Option (Stamp × Bor (List ℕ))) (dt : DateTime)
    → option_map stamp_by_year (read_of read) ≡ read_iso_stamp text → IfSome read (λ p. p.0.nanosecond ≡ 0)
    → iso_date_time (with_given_offset given text) dt → IsStamped given read dt
unfolding iso_date_time
dashed_whole given text None dt e w h =
    let is = stamped_whole timed_dashed read_iso_stamp timed_dashed_reads given text (by_year dt) (offset_seconds dt) h.0 in
    let none = e ∙ is.read in cc
dashed_whole given text (Some (s, rest)) dt e w h =
    let is = stamped_whole timed_dashed read_iso_stamp timed_dashed_reads given text (by_year dt) (offset_seconds dt) h.0 in
    let pair = some_pair (stamp_year s) (by_year dt) rest.now is.rest (read_iso_stamp text) (read_iso_stamp text) (sym e) is.read refl in
    let v = pair.0 in (
      rw pair.1 is.ends,
      (
        ap (λ p. p.0.0) v,
        ap (λ p. p.0.1.0) v,
        ap (λ p. p.0.1.1) v,
        ap (λ p. p.1.0) v,
        ap (λ p. p.1.1.0) v,
        ap (λ p. p.1.1.1) v,
        w ∙ sym h.1,
      ),
    )

pub dashed_once : (text : List ℕ) (a b : DateTime) → iso_date_time text a → iso_date_time text b → SameDateTime a b
unfolding iso_date_time
dashed_once text a b h k =
    let same = joined_once timed_dashed read_iso_stamp timed_dashed_reads text (by_year a) (by_year b) (offset_seconds a)
    (offset_seconds b) h.0 k.0 in
    let v = same.0 in
    ((ap (λ p. p.0.0) v, ap (λ p. p.0.1.0) v, ap (λ p. p.0.1.1) v), same_clock a b (ap (λ p. p.1) v), h.1 ∙ sym k.1, same.1)

pub long_found : (given : Bool) (text : List ℕ) (read : Option (Stamp × Bor (List ℕ))) (dt : DateTime)
    → option_map stamp_by_day (read_of read) ≡ read_long_stamp text → IfSome read (λ p. p.0.nanosecond ≡ 0) → IsStamped given read dt
    → long_date_time (with_given_offset given text) dt
unfolding long_date_time
long_found given text None dt e w h = absurd h
long_found given text (Some (s, rest)) dt e w h = (
  subst (λ v. joined (timed_day_month month_name) 32 offset_form (with_given_offset given text) (v, offset_seconds dt))
      (stamp_day_is s dt h.1) (stamped_found (timed_day_month month_name) read_long_stamp timed_long_reads given text (stamp_day s) rest.now
      (offset_seconds dt) (sym e) h.0),
  sym h.1.6 ∙ w,
)

pub long_whole : (given : Bool) (text : List ℕ) (read : Option (Stamp × Bor (List ℕ))) (dt : DateTime)
    → option_map stamp_by_day (read_of read) ≡ read_long_stamp text → IfSome read (λ p. p.0.nanosecond ≡ 0)
    → long_date_time (with_given_offset given text) dt → IsStamped given read dt
unfolding long_date_time
long_whole given text None dt e w h =
    let is = stamped_whole (timed_day_month month_name) read_long_stamp timed_long_reads given text (by_day dt) (offset_seconds dt) h.0 in
    let none = e ∙ is.read in cc
long_whole given text (Some (s, rest)) dt e w h =
    let is = stamped_whole (timed_day_month month_name) read_long_stamp timed_long_reads given text (by_day dt) (offset_seconds dt) h.0 in
    let pair = some_pair (stamp_day s) (by_day dt) rest.now is.rest (read_long_stamp text) (read_long_stamp text) (sym e) is.read refl in
    let v = pair.0 in (
      rw pair.1 is.ends,
      (
        ap (λ p. p.0.1.1) v,
        ap (λ p. p.0.1.0) v,
        ap (λ p. p.0.0) v,
        ap (λ p. p.1.0) v,
        ap (λ p. p.1.1.0) v,
        ap (λ p. p.1.1.1) v,
        w ∙ sym h.1,
      ),
    )

pub long_once : (text : List ℕ) (a b : DateTime) → long_date_time text a → long_date_time text b → SameDateTime a b
unfolding long_date_time
long_once text a b h k =
    let same = joined_once (timed_day_month month_name) read_long_stamp timed_long_reads text (by_day a) (by_day b) (offset_seconds a)
    (offset_seconds b) h.0 k.0 in
    let v = same.0 in
    ((ap (λ p. p.0.1.1) v, ap (λ p. p.0.1.0) v, ap (λ p. p.0.0) v), same_clock a b (ap (λ p. p.1) v), h.1 ∙ sym k.1, same.1)

pub short_found : (given : Bool) (text : List ℕ) (read : Option (Stamp × Bor (List ℕ))) (dt : DateTime)
    → option_map stamp_by_day (read_of read) ≡ read_short_stamp text → IfSome read (λ p. p.0.nanosecond ≡ 0) → IsStamped given read dt
    → short_date_time (with_given_offset given text) dt
unfolding short_date_time
short_found given text None dt e w h = absurd h
short_found given text (Some (s, rest)) dt e w h = (
  subst (λ v. joined (timed_day_month short_month_name) 32 offset_form (with_given_offset given text) (v, offset_seconds dt))
      (stamp_day_is s dt h.1) (stamped_found (timed_day_month short_month_name) read_short_stamp timed_short_reads given text
      (stamp_day s) rest.now (offset_seconds dt) (sym e) h.0),
  sym h.1.6 ∙ w,
)

pub short_whole : (given : Bool) (text : List ℕ) (read : Option (Stamp × Bor (List ℕ))) (dt : DateTime)
    → option_map stamp_by_day (read_of read) ≡ read_short_stamp text → IfSome read (λ p. p.0.nanosecond ≡ 0)
    → short_date_time (with_given_offset given text) dt → IsStamped given read dt
unfolding short_date_time
short_whole given text None dt e w h =
    let is = stamped_whole (timed_day_month short_month_name) read_short_stamp timed_short_reads given text (by_day dt)
    (offset_seconds dt) h.0 in
    let none = e ∙ is.read in cc
short_whole given text (Some (s, rest)) dt e w h =
    let is = stamped_whole (timed_day_month short_month_name) read_short_stamp timed_short_reads given text (by_day dt)
    (offset_seconds dt) h.0 in
    let pair = some_pair (stamp_day s) (by_day dt) rest.now is.rest (read_short_stamp text) (read_short_stamp text) (sym e) is.read refl in
    let v = pair.0 in (
      rw pair.1 is.ends,
      (
        ap (λ p. p.0.1.1) v,
        ap (λ p. p.0.1.0) v,
        ap (λ p. p.0.0) v,
        ap (λ p. p.1.0) v,
        ap (λ p. p.1.1.0) v,
        ap (λ p. p.1.1.1) v,
        w ∙ sym h.1,
      ),
    )

pub short_once : (text : List ℕ) (a b : DateTime) → short_date_time text a → short_date_time text b → SameDateTime a b
unfolding short_date_time
short_once text a b h k =
    let same = joined_once (timed_day_month short_month_name) read_short_stamp timed_short_reads text (by_day a) (by_day b)
    (offset_seconds a) (offset_seconds b) h.0 k.0 in
    let v = same.0 in
    ((ap (λ p. p.0.1.1) v, ap (λ p. p.0.1.0) v, ap (λ p. p.0.0) v), same_clock a b (ap (λ p. p.1) v), h.1 ∙ sym k.1, same.1)

pub slashed_found : (given : Bool) (text : List ℕ) (read : Option (Stamp × Bor (List ℕ))) (dt : DateTime)
    → option_map stamp_by_month (read_of read) ≡ read_us_stamp text → IfSome read (λ p. p.0.nanosecond ≡ 0) → IsStamped given read dt
    → us_date_time (with_given_offset given text) dt
unfolding us_date_time
slashed_found given text None dt e w h = absurd h
slashed_found given text (Some (s, rest)) dt e w h = (
  subst (λ v. joined timed_slashed 32 offset_form (with_given_offset given text) (v, offset_seconds dt)) (stamp_month_is s dt h.1)
      (stamped_found timed_slashed read_us_stamp timed_slashed_reads given text (stamp_month s) rest.now (offset_seconds dt)
      (sym e) h.0),
  sym h.1.6 ∙ w,
)

pub slashed_whole : (given : Bool) (text : List ℕ) (read : Option (Stamp × Bor (List ℕ))) (dt : DateTime)
    → option_map stamp_by_month (read_of read) ≡ read_us_stamp text → IfSome read (λ p. p.0.nanosecond ≡ 0)
    → us_date_time (with_given_offset given text) dt → IsStamped given read dt
unfolding us_date_time
slashed_whole given text None dt e w h =
    let is = stamped_whole timed_slashed read_us_stamp timed_slashed_reads given text (by_month dt) (offset_seconds dt) h.0 in
    let none = e ∙ is.read in cc
slashed_whole given text (Some (s, rest)) dt e w h =
    let is = stamped_whole timed_slashed read_us_stamp timed_slashed_reads given text (by_month dt) (offset_seconds dt) h.0 in
    let pair = some_pair (stamp_month s) (by_month dt) rest.now is.rest (read_us_stamp text) (read_us_stamp text)
    (sym e) is.read refl in
    let v = pair.0 in (
      rw pair.1 is.ends,
      (
        ap (λ p. p.0.1.1) v,
        ap (λ p. p.0.0) v,
        ap (λ p. p.0.1.0) v,
        ap (λ p. p.1.0) v,
        ap (λ p. p.1.1.0) v,
        ap (λ p. p.1.1.1) v,
        w ∙ sym h.1,
      ),
    )

pub slashed_once : (text : List ℕ) (a b : DateTime) → us_date_time text a → us_date_time text b → SameDateTime a b
unfolding us_date_time
slashed_once text a b h k =
    let same = joined_once timed_slashed read_us_stamp timed_slashed_reads text (by_month a) (by_month b) (offset_seconds a)
    (offset_seconds b) h.0 k.0 in
    let v = same.0 in
    ((ap (λ p. p.0.1.1) v, ap (λ p. p.0.0) v, ap (λ p. p.0.1.0) v), same_clock a b (ap (λ p. p.1) v), h.1 ∙ sym k.1, same.1)

pub fraction_found : (given : Bool) (text : List ℕ) (read : Option (Stamp × Bor (List ℕ))) (dt : DateTime)
    → option_map stamp_by_fraction (read_of read) ≡ read_fraction_stamp text → IsStamped given read dt
    → fraction_date_time (with_given_offset given text) dt
unfolding fraction_date_time
fraction_found given text None dt e h = absurd h
fraction_found given text (Some (s, rest)) dt e h =
    subst (λ v. joined timed_fraction 32 offset_form (with_given_offset given text) (v, offset_seconds dt)) (stamp_fraction_is s dt h.1)
    (stamped_found timed_fraction read_fraction_stamp timed_fraction_reads given text (stamp_fraction s) rest.now (offset_seconds dt)
    (sym e) h.0)

pub fraction_whole : (given : Bool) (text : List ℕ) (read : Option (Stamp × Bor (List ℕ))) (dt : DateTime)
    → option_map stamp_by_fraction (read_of read) ≡ read_fraction_stamp text → fraction_date_time (with_given_offset given text) dt
    → IsStamped given read dt
unfolding fraction_date_time
fraction_whole given text None dt e h =
    let is = stamped_whole timed_fraction read_fraction_stamp timed_fraction_reads given text (by_fraction dt) (offset_seconds dt) h in
    let none = e ∙ is.read in cc
fraction_whole given text (Some (s, rest)) dt e h =
    let is = stamped_whole timed_fraction read_fraction_stamp timed_fraction_reads given text (by_fraction dt) (offset_seconds dt) h in
    let pair = some_pair (stamp_fraction s) (by_fraction dt) rest.now is.rest (read_fraction_stamp text) (read_fraction_stamp text)
    (sym e) is.read refl in
    let v = pair.0 in (
      rw pair.1 is.ends,
      (
        ap (λ p. p.0.0) v,
        ap (λ p. p.0.1.0) v,
        ap (λ p. p.0.1.1) v,
        ap (λ p. p.1.0.0) v,
        ap (λ p. p.1.0.1.0) v,
        ap (λ p. p.1.0.1.1) v,
        ap (λ p. p.1.1) v,
      ),
    )

pub fraction_once : (text : List ℕ) (a b : DateTime) → fraction_date_time text a → fraction_date_time text b → SameDateTime a b
unfolding fraction_date_time
fraction_once text a b h k =
    let same = joined_once timed_fraction read_fraction_stamp timed_fraction_reads text (by_fraction a) (by_fraction b) (offset_seconds a)
    (offset_seconds b) h k in
    let v = same.0 in
    ((ap (λ p. p.0.0) v, ap (λ p. p.0.1.0) v, ap (λ p. p.0.1.1) v), same_clock a b (ap (λ p. p.1.0) v), ap (λ p. p.1.1) v, same.1)

abbrev by_weekday : ℕ → DateTime → ℕ × (ℕ × (ℕ × ((ℕ × (ℕ × ℕ)) × ℤ)))
by_weekday w dt = (w, ((civil_date dt).month, ((civil_date dt).day, (hms dt.local, (civil_date dt).year))))

abbrev stamp_weekday : ℕ → Stamp → ℕ × (ℕ × (ℕ × ((ℕ × (ℕ × ℕ)) × ℤ)))
stamp_weekday w s = (w, (s.date.month, (s.date.day, (stamp_clock s, s.date.year))))

stamp_weekday_is : (w : ℕ) (s : Stamp) (dt : DateTime) → HasStamp s dt → stamp_weekday w s ≡ by_weekday w dt
stamp_weekday_is w s dt h = rw (h.0, h.1, h.2, h.3, h.4, h.5) refl

pub weekday_found : (given : Bool) (text : List ℕ) (read : Option ((ℕ × Stamp) × Bor (List ℕ))) (dt : DateTime)
    → option_map stamp_by_weekday (read_of read) ≡ read_weekday_stamp text → IfSome read (λ p. p.0.1.nanosecond ≡ 0)
    → IsStamped given (option_map without_weekday read) dt → weekday_date_time (with_given_offset given text) dt
unfolding weekday_date_time
weekday_found given text None dt e z h = absurd h
weekday_found given text (Some ((w, s), rest)) dt e z h = (
  w,
  subst (λ v. joined timed_weekday 32 offset_form (with_given_offset given text) (v, offset_seconds dt))
      (stamp_weekday_is w s dt h.1) (stamped_found timed_weekday read_weekday_stamp timed_weekday_reads given text
      (stamp_weekday w s) rest.now (offset_seconds dt) (sym e) h.0),
  sym h.1.6 ∙ z,
)

pub weekday_whole : (given : Bool) (text : List ℕ) (read : Option ((ℕ × Stamp) × Bor (List ℕ))) (dt : DateTime)
    → option_map stamp_by_weekday (read_of read) ≡ read_weekday_stamp text → IfSome read (λ p. p.0.1.nanosecond ≡ 0)
    → weekday_date_time (with_given_offset given text) dt → IsStamped given (option_map without_weekday read) dt
unfolding weekday_date_time
weekday_whole given text None dt e z (w, h, n) =
    let is = stamped_whole timed_weekday read_weekday_stamp timed_weekday_reads given text (by_weekday w dt) (offset_seconds dt) h in
    let none = e ∙ is.read in cc
weekday_whole given text (Some ((k, s), rest)) dt e z (w, h, n) =
    let is = stamped_whole timed_weekday read_weekday_stamp timed_weekday_reads given text (by_weekday w dt) (offset_seconds dt) h in
    let pair = some_pair (stamp_weekday k s) (by_weekday w dt) rest.now is.rest (read_weekday_stamp text) (read_weekday_stamp text)
    (sym e) is.read refl in
    let v = pair.0 in (
      rw pair.1 is.ends,
      (
        ap (λ p. p.1.1.1.1) v,
        ap (λ p. p.1.0) v,
        ap (λ p. p.1.1.0) v,
        ap (λ p. p.1.1.1.0.0) v,
        ap (λ p. p.1.1.1.0.1.0) v,
        ap (λ p. p.1.1.1.0.1.1) v,
        z ∙ sym n,
      ),
    )

pub weekday_once : (text : List ℕ) (a b : DateTime) → weekday_date_time text a → weekday_date_time text b → SameDateTime a b
unfolding weekday_date_time
weekday_once text a b (w, h, n) (x, k, o) =
    let same = joined_once timed_weekday read_weekday_stamp timed_weekday_reads text (by_weekday w a) (by_weekday x b) (offset_seconds a)
    (offset_seconds b) h k in
    let v = same.0 in
    ((ap (λ p. p.1.1.1.1) v, ap (λ p. p.1.0) v, ap (λ p. p.1.1.0) v), same_clock a b (ap (λ p. p.1.1.1.0) v), n ∙ sym o, same.1)

-- a text has one date time by the first form that fits
pub date_time_once : (text : List ℕ) (a b : DateTime) → date_time_forms text a → date_time_forms text b → SameDateTime a b
date_time_once text a b (inl h) (inl k) = dashed_once text a b h k
date_time_once text a b (inl h) (inr (apart, k)) = absurd (apart a h)
date_time_once text a b (inr (apart, h)) (inl k) = absurd (apart b k)
date_time_once text a b (inr (_, inl h)) (inr (_, inl k)) = fraction_once text a b h k
date_time_once text a b (inr (_, inl h)) (inr (_, inr (apart, k))) = absurd (apart a h)
date_time_once text a b (inr (_, inr (apart, h))) (inr (_, inl k)) = absurd (apart b k)
date_time_once text a b (inr (_, inr (_, inl h))) (inr (_, inr (_, inl k))) = long_once text a b h k
date_time_once text a b (inr (_, inr (_, inl h))) (inr (_, inr (_, inr (apart, k)))) = absurd (apart a h)
date_time_once text a b (inr (_, inr (_, inr (apart, h)))) (inr (_, inr (_, inl k))) = absurd (apart b k)
date_time_once text a b (inr (_, inr (_, inr (_, inl h)))) (inr (_, inr (_, inr (_, inl k)))) = short_once text a b h k
date_time_once text a b (inr (_, inr (_, inr (_, inl h)))) (inr (_, inr (_, inr (_, inr (apart, k))))) = absurd (apart a h)
date_time_once text a b (inr (_, inr (_, inr (_, inr (apart, h))))) (inr (_, inr (_, inr (_, inl k)))) = absurd (apart b k)
date_time_once text a b (inr (_, inr (_, inr (_, inr (_, inl h))))) (inr (_, inr (_, inr (_, inr (_, inl k))))) = slashed_once text a b h k
date_time_once text a b (inr (_, inr (_, inr (_, inr (_, inl h))))) (inr (_, inr (_, inr (_, inr (_, inr (apart, k)))))) =
    absurd (apart a h)
date_time_once text a b (inr (_, inr (_, inr (_, inr (_, inr (apart, h)))))) (inr (_, inr (_, inr (_, inr (_, inl k))))) =
    absurd (apart b k)
date_time_once text a b (inr (_, inr (_, inr (_, inr (_, inr (_, h)))))) (inr (_, inr (_, inr (_, inr (_, inr (_, k)))))) =
    weekday_once text a b h k
