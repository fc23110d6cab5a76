-- Whole seconds since 1970, and the cases of a date time's text.
use Rattle.std.proofs.Common.{
  ◌≡◌,
  ◌≢◌,
  inl,
  inr,
  ℕ,
  List,
  [],
  ◌∷◌,
  length,
  sym,
  ◌∙◌,
  arith,
  false,
  nat_eq,
  Option,
  Some,
  None,
  ℤ,
  pos,
  IfSome,
  IfNone,
  IsSomeAnd,
}
use Rattle.std.specs.Prelude.{IsTrue, ◌↔◌}
use Rattle.jiff_core.specs.DateTime.{civil_nanos, IsCivilNanos}
use Rattle.jiff_core.specs.Timestamp.{nanos_of_seconds}
use Rattle.jiff_core.proofs.SignedLemmas.{signed_arith}
use Rattle.jiff_core.proofs.DateTimeLemmas.{civil_nanos_range, civil_nanos_injective, time_nanos_injective}
use Rattle.jiff_core.proofs.DateLemmas.{epoch_day_injective}
use Rattle.liquid_dates.specs.declared.date_time.DateTime.{DateTime}
use Rattle.liquid_dates.specs.meaning.Instant.{instant, offset_seconds, civil_date, civil_time}
use Rattle.liquid_dates.specs.meaning.DateText.{
  IsNow,
  IsWholeNumber,
  IsUnixTime,
  IsDateTimeText,
  SameDateTime,
  date_time_forms,
  ends_in_offset,
  with_given_offset,
}
use Rattle.liquid_dates.proofs.InstantLemmas.{instant_is}
use Rattle.liquid_dates.proofs.DateTimeForms.{date_time_once}

-- a date time at offset 0 whose instant is whole seconds
pub unix_found : (dt : DateTime) (z : ℤ) → instant dt ≡ nanos_of_seconds z → offset_seconds dt ≡ pos 0 → IsUnixTime z dt
unfolding instant
unix_found dt z e o =
    let small = dt.local.time.subsec_in in
    (omega (arith, signed_arith), omega (arith, signed_arith), o)

unix_civil : (dt : DateTime) (z : ℤ) → IsUnixTime z dt → civil_nanos dt.local ≡ nanos_of_seconds z
unfolding instant
unix_civil dt z h = omega (arith, signed_arith, instant_is dt, h.0, h.1, h.2)

pub unix_range : (dt : DateTime) (z : ℤ) → IsUnixTime z dt → IsCivilNanos (nanos_of_seconds z)
unix_range dt z h = rw (← unix_civil dt z h) (civil_nanos_range dt.local)

-- the same number of seconds is the same date time
pub unix_once : (a b : DateTime) (z : ℤ) → IsUnixTime z a → IsUnixTime z b → SameDateTime a b
unix_once a b z h k =
    let same = civil_nanos_injective a.local b.local (unix_civil a z h ∙ sym (unix_civil b z k)) in
    let date = epoch_day_injective (civil_date a) (civil_date b) same.0 in
    let time = time_nanos_injective (civil_time a) (civil_time b) same.1 in
    (date, (time.0, time.1, time.2), h.1 ∙ sym k.1, h.2 ∙ sym k.2)

pub not_empty : (text : List ℕ) → nat_eq (length text) 0 ≡ false → text ≢ []
not_empty [] e = λ _. cc
not_empty (c ∷ cs) e = λ f. cc

-- a text that is read as an integer
pub whole_text : (text : List ℕ) (moment : DateTime) (z : ℤ) (o : Option DateTime) → text ≢ [] → ¬ (IsNow text) → IsWholeNumber text z
    → IfSome o (λ dt. IsUnixTime z dt) → IfSome o (λ dt. IsDateTimeText text moment dt)
whole_text text moment z None full apart number h = h
whole_text text moment z (Some dt) full apart number h = (full, inr (apart, inl (z, number, h)))

pub whole_only : (text : List ℕ) (moment : DateTime) (z : ℤ) (o : Option DateTime) (dt : DateTime) → ¬ (IsNow text)
    → IsWholeNumber text z → IfSome o (λ r. IsUnixTime z r) → IfNone o ((r : DateTime) → ¬ (IsUnixTime z r))
    → IsDateTimeText text moment dt → IsSomeAnd o (λ r. SameDateTime r dt)
whole_only text moment z o dt apart number found none (full, inl (now, e)) = absurd (apart now)
whole_only text moment z o dt apart number found none (full, inr (_, inr (no_number, forms))) = absurd (no_number z number)
whole_only text moment z None dt apart number found none (full, inr (_, inl (y, other, unix))) =
    absurd (none dt (rw (number.2 ∙ sym other.2) unix))
whole_only text moment z (Some r) dt apart number found none (full, inr (_, inl (y, other, unix))) =
    unix_once r dt z found (rw (number.2 ∙ sym other.2) unix)

-- a text that is read by the forms
pub forms_text : (text : List ℕ) (moment : DateTime) (o : Option DateTime) → text ≢ [] → ¬ (IsNow text)
    → ((z : ℤ) → ¬ (IsWholeNumber text z)) → IfSome o (λ dt. date_time_forms (with_given_offset (ends_in_offset text) text) dt)
    → IfSome o (λ dt. IsDateTimeText text moment dt)
forms_text text moment None full apart no_number h = h
forms_text text moment (Some dt) full apart no_number h = (full, inr (apart, inr (no_number, h)))

pub forms_only : (text : List ℕ) (moment : DateTime) (o : Option DateTime) (dt : DateTime) → ¬ (IsNow text)
    → ((z : ℤ) → ¬ (IsWholeNumber text z)) → IfSome o (λ r. date_time_forms (with_given_offset (ends_in_offset text) text) r)
    → IfNone o ((r : DateTime) → ¬ (date_time_forms (with_given_offset (ends_in_offset text) text) r)) → IsDateTimeText text moment dt
    → IsSomeAnd o (λ r. SameDateTime r dt)
forms_only text moment o dt apart no_number found none (full, inl (now, e)) = absurd (apart now)
forms_only text moment o dt apart no_number found none (full, inr (_, inl (z, number, unix))) = absurd (no_number z number)
forms_only text moment None dt apart no_number found none (full, inr (_, inr (_, forms))) = absurd (none dt forms)
forms_only text moment (Some r) dt apart no_number found none (full, inr (_, inr (_, forms))) =
    date_time_once (with_given_offset (ends_in_offset text) text) r dt found forms

pub not_now : (text : List ℕ) → IsTrue false ↔ IsNow text → ¬ (IsNow text)
not_now text h = λ now. let e = h.1 now in cc
