-- A value means one moment, or none.
use Rattle.std.proofs.Common.{◌≡◌, ◌≢◌, inl, inr, ℕ, List, [], refl, sym, ap, ◌∙◌, pos, Option, Some, None, map, arith}
use Rattle.std.specs.Prelude.{codes, FitsSigned}
use Rattle.std.specs.Char.{to_ascii_lowercase}
use Rattle.std.specs.Int.{w64}
use Rattle.std.specs.Str.{trim, trim_start, trim_end, chars}
use Rattle.std.specs.Str.Parse.{IsNumeral, without_leading_sign, signed_digits_value}
use Rattle.jiff_core.specs.declared.civil.date.Date.{Date as CivilDate}
use Rattle.jiff_core.proofs.DateTimeLemmas.{time_nanos_injective}
use Rattle.jiff_core.proofs.SignedLemmas.{signed_arith}
use Rattle.liquid_dates.specs.declared.date_time.DateTime.{DateTime}
use Rattle.liquid_dates.specs.meaning.DateText.{
  IsNow,
  IsDateText,
  IsDateTimeText,
  IsUnixTime,
  date_forms,
  date_time_forms,
  ends_in_offset,
  with_given_offset,
}
use Rattle.liquid_dates.specs.meaning.Instant.{civil_date, civil_time}
use Rattle.liquid_dates.proofs.DateTimeForms.{date_time_once}
use Rattle.liquid_dates.proofs.UnixTimeLemmas.{unix_once}
use Rattle.liquid_dates.proofs.WholeLemmas.{date_once}
use Rattle.liquid_scalar.specs.meaning.Scalar.{Scal, integer, boolean, text, date, date_time}
use Rattle.liquid_value.specs.meaning.Tree.{Tree, nil, state, scalar, array, object}
use Rattle.filter_dates.specs.meaning.MomentText.{IsMomentInText}
use Rattle.filter_dates.specs.meaning.Moments.{
  IsMidnight,
  IsMidnightText,
  IsPlainTextAt,
  IsTextAt,
  IsMomentText,
  IsMomentOfScalar,
  IsMomentOf,
}
use Rattle.filter_dates.proofs.FieldLemmas.{moment_in_text_decided, moment_in_text_once}
use Rattle.filter_dates.proofs.Days.{unix_decided}
use Rattle.filter_dates.proofs.Deciding.{Either, Decided, both, one_of, equal_texts, fits, is_numeral, first_decided}
use Rattle.filter_dates.proofs.Forms.{date_decided, date_time_decided}
use Rattle.filter_dates.proofs.Parts.{date_of, time_of, date_time_of, same_date_is, same_date_time_is}

-- the strings `now` and `today`
is_now : (bytes : List ℕ) → Either (IsNow bytes)
is_now bytes =
    one_of (equal_texts (map to_ascii_lowercase (trim bytes)) (codes "now"))
    (equal_texts (map to_ascii_lowercase (trim bytes)) (codes "today"))

today_is_now : (bytes : List ℕ) → bytes ≡ codes "today" → IsNow bytes
unfolding trim_start trim_end chars lib.Utf8.encode
today_is_now bytes e = inr (rw e refl)

-- the text of a date time
abbrev IsNumber : List ℕ → Type 0
IsNumber bytes = IsNumeral 10 (without_leading_sign bytes) × FitsSigned w64 (signed_digits_value 10 bytes)

is_number : (bytes : List ℕ) → Either (IsNumber bytes)
is_number bytes = both (is_numeral 10 (without_leading_sign bytes)) (fits (signed_digits_value 10 bytes))

date_time_text_decided : (bytes : List ℕ) (now : DateTime) → Decided (IsDateTimeText bytes now)
date_time_text_decided bytes now = by_length (equal_texts bytes [])
  where
    by_number : bytes ≢ [] → ¬ (IsNow bytes) → IsNumber bytes → Decided (IsUnixTime (signed_digits_value 10 bytes))
        → Decided (IsDateTimeText bytes now)
    by_number full other number (inl (dt, is)) =
        inl (dt, (full, inr (other, inl (signed_digits_value 10 bytes, (number.0, number.1, refl), is))))
    by_number full other number (inr none) = inr fails
      where
        fails : (dt : DateTime) → ¬ (IsDateTimeText bytes now dt)
        fails dt (_, inl (word, _)) = other word
        fails dt (_, inr (_, inl (z, is, unix))) = none dt (rw (← is.2) unix)
        fails dt (_, inr (_, inr (none, _))) = none (signed_digits_value 10 bytes) (number.0, number.1, refl)

    by_form : bytes ≢ [] → ¬ (IsNow bytes) → ¬ (IsNumber bytes) → Decided (date_time_forms (with_given_offset (ends_in_offset bytes) bytes))
        → Decided (IsDateTimeText bytes now)
    by_form full other apart (inl (dt, is)) = inl (dt, (full, inr (other, inr (λ z number. apart (number.0, number.1), is))))
    by_form full other apart (inr none) = inr fails
      where
        fails : (dt : DateTime) → ¬ (IsDateTimeText bytes now dt)
        fails dt (_, inl (word, _)) = other word
        fails dt (_, inr (_, inl (z, is, unix))) = apart (is.0, is.1)
        fails dt (_, inr (_, inr (_, form))) = none dt form

    by_kind : bytes ≢ [] → ¬ (IsNow bytes) → Either (IsNumber bytes) → Decided (IsDateTimeText bytes now)
    by_kind full other (inl number) = by_number full other number (unix_decided (signed_digits_value 10 bytes))
    by_kind full other (inr apart) = by_form full other apart (date_time_decided (with_given_offset (ends_in_offset bytes) bytes))

    by_word : bytes ≢ [] → Either (IsNow bytes) → Decided (IsDateTimeText bytes now)
    by_word full (inl word) = inl (now, (full, inl (word, refl)))
    by_word full (inr other) = by_kind full other (is_number bytes)

    by_length : Either (bytes ≡ []) → Decided (IsDateTimeText bytes now)
    by_length (inl e) = inr (λ dt h. h.0 e)
    by_length (inr full) = by_word full (is_now bytes)

date_time_text_once : (bytes : List ℕ) (now a b : DateTime) → IsDateTimeText bytes now a → IsDateTimeText bytes now b → a ≡ b
date_time_text_once bytes now a b (_, inl (_, e)) (_, inl (_, f)) = e ∙ sym f
date_time_text_once bytes now a b (_, inl (word, _)) (_, inr (other, _)) = absurd (other word)
date_time_text_once bytes now a b (_, inr (other, _)) (_, inl (word, _)) = absurd (other word)
date_time_text_once bytes now a b (_, inr (_, inl (z, is, unix))) (_, inr (_, inl (y, is₂, unix₂))) =
    same_date_time_is a b (unix_once a b z unix (rw (is.2 ∙ sym is₂.2) unix₂))
date_time_text_once bytes now a b (_, inr (_, inl (z, is, _))) (_, inr (_, inr (none, _))) = absurd (none z is)
date_time_text_once bytes now a b (_, inr (_, inr (none, _))) (_, inr (_, inl (z, is, _))) = absurd (none z is)
date_time_text_once bytes now a b (_, inr (_, inr (_, form))) (_, inr (_, inr (_, form₂))) =
    same_date_time_is a b (date_time_once (with_given_offset (ends_in_offset bytes) bytes) a b form form₂)

-- the text of a date
date_text_decided : (bytes : List ℕ) (now : DateTime) → Decided (IsDateText bytes now)
date_text_decided bytes now = by_word (equal_texts bytes (codes "today"))
  where
    by_form : bytes ≢ codes "today" → Decided (date_forms bytes) → Decided (IsDateText bytes now)
    by_form other (inl (d, is)) = inl (d, inr (other, is))
    by_form other (inr none) = inr fails
      where
        fails : (d : CivilDate) → ¬ (IsDateText bytes now d)
        fails d (inl (e, _)) = other e
        fails d (inr (_, form)) = none d form

    by_word : Either (bytes ≡ codes "today") → Decided (IsDateText bytes now)
    by_word (inl e) = inl (civil_date now, inl (e, refl))
    by_word (inr other) = by_form other (date_decided bytes)

date_text_once : (bytes : List ℕ) (now : DateTime) (c d : CivilDate) → IsDateText bytes now c → IsDateText bytes now d → c ≡ d
date_text_once bytes now c d (inl (_, e)) (inl (_, f)) = e ∙ sym f
date_text_once bytes now c d (inl (e, _)) (inr (other, _)) = absurd (other e)
date_text_once bytes now c d (inr (other, _)) (inl (e, _)) = absurd (other e)
date_text_once bytes now c d (inr (_, form)) (inr (_, form₂)) = same_date_is c d (date_once bytes c d form form₂)

-- midnight
midnight : CivilDate → DateTime
midnight d =
    date_time_of d (time_of 0 0 0 0 (omega arith, omega arith, omega arith, omega arith)) (pos 0)
    (omega (arith, signed_arith), omega (arith, signed_arith))

midnight_is : (d : CivilDate) → IsMidnight d (midnight d)
unfolding midnight
midnight_is d = ((refl, refl, refl), refl, refl)

midnight_once : (c d : CivilDate) (a b : DateTime) → c ≡ d → IsMidnight c a → IsMidnight d b → a ≡ b
midnight_once c d a b e (date_a, time_a, offset_a) (date_b, time_b, offset_b) =
    let time = time_nanos_injective (civil_time a) (civil_time b) (time_a ∙ sym time_b) in
    let years = ap (λ (x : CivilDate). x.year) e in
    let months = ap (λ (x : CivilDate). x.month) e in
    let days = ap (λ (x : CivilDate). x.day) e in
    same_date_time_is a b (
      (date_a.0 ∙ years ∙ sym date_b.0, date_a.1 ∙ months ∙ sym date_b.1, date_a.2 ∙ days ∙ sym date_b.2),
      (time.0, time.1, time.2),
      time.3,
      offset_a ∙ sym offset_b,
    )

midnight_text_decided : (bytes : List ℕ) (now : DateTime) → Decided (IsMidnightText now bytes)
midnight_text_decided bytes now = by_date (date_text_decided bytes now)
  where
    by_date : Decided (IsDateText bytes now) → Decided (IsMidnightText now bytes)
    by_date (inl (d, is)) = inl (midnight d, (d, is, midnight_is d))
    by_date (inr none) = inr (λ dt h. none h.0 h.1)

-- either of them
plain_text_decided : (bytes : List ℕ) (now : DateTime) → Decided (IsPlainTextAt now bytes)
plain_text_decided bytes now =
    first_decided (λ b dt. IsDateTimeText b now dt) (IsMidnightText now) bytes (date_time_text_decided bytes now)
    (midnight_text_decided bytes now)

plain_text_once : (bytes : List ℕ) (now a b : DateTime) → IsPlainTextAt now bytes a → IsPlainTextAt now bytes b → a ≡ b
plain_text_once bytes now a b (inl h) (inl k) = date_time_text_once bytes now a b h k
plain_text_once bytes now a b (inl h) (inr (none, _)) = absurd (none a h)
plain_text_once bytes now a b (inr (none, _)) (inl k) = absurd (none b k)
plain_text_once bytes now a b (inr (_, (c, is, at))) (inr (_, (d, is₂, at₂))) =
    midnight_once c d a b (date_text_once bytes now c d is is₂) at at₂

-- or the date time of another spelling
text_at_decided : (bytes : List ℕ) (now : DateTime) → Decided (IsTextAt now bytes)
text_at_decided bytes now =
    first_decided (IsPlainTextAt now) IsMomentInText bytes (plain_text_decided bytes now) (moment_in_text_decided bytes)

text_at_once : (bytes : List ℕ) (now a b : DateTime) → IsTextAt now bytes a → IsTextAt now bytes b → a ≡ b
text_at_once bytes now a b (inl h) (inl k) = plain_text_once bytes now a b h k
text_at_once bytes now a b (inl h) (inr (none, _)) = absurd (none a h)
text_at_once bytes now a b (inr (none, _)) (inl k) = absurd (none b k)
text_at_once bytes now a b (inr (_, h)) (inr (_, k)) = moment_in_text_once bytes a b h k

-- a string other than `now` and `today` means the same at each moment
date_time_anywhen : (bytes : List ℕ) (now then dt : DateTime) → ¬ (IsNow bytes) → IsDateTimeText bytes now dt → IsDateTimeText bytes then dt
date_time_anywhen bytes now then dt other (full, inl (word, _)) = absurd (other word)
date_time_anywhen bytes now then dt other (full, inr h) = (full, inr h)

date_anywhen : (bytes : List ℕ) (now then : DateTime) (d : CivilDate) → ¬ (IsNow bytes) → IsDateText bytes now d → IsDateText bytes then d
date_anywhen bytes now then d other (inl (e, _)) = absurd (other (today_is_now bytes e))
date_anywhen bytes now then d other (inr h) = inr h

plain_anywhen : (bytes : List ℕ) (now then dt : DateTime) → ¬ (IsNow bytes) → IsPlainTextAt now bytes dt → IsPlainTextAt then bytes dt
plain_anywhen bytes now then dt other (inl h) = inl (date_time_anywhen bytes now then dt other h)
plain_anywhen bytes now then dt other (inr (none, (d, is, at))) =
    inr (λ e h. none e (date_time_anywhen bytes then now e other h), (d, date_anywhen bytes now then d other is, at))

pub text_anywhen : (bytes : List ℕ) (now then dt : DateTime) → ¬ (IsNow bytes) → IsTextAt now bytes dt → IsTextAt then bytes dt
text_anywhen bytes now then dt other (inl h) = inl (plain_anywhen bytes now then dt other h)
text_anywhen bytes now then dt other (inr (none, is)) = inr (λ e h. none e (plain_anywhen bytes then now e other h), is)

-- some date time
epoch : DateTime
epoch =
    midnight (date_of (pos 1970) 1 1 (
      (omega (arith, signed_arith), omega (arith, signed_arith)),
      (omega arith, omega arith),
      (omega arith, omega arith),
    ))

-- the text, with such a moment or without one
moment_text_decided : (now : Option DateTime) (bytes : List ℕ) → Decided (IsMomentText now bytes)
moment_text_decided (Some now) bytes = text_at_decided bytes now
moment_text_decided None bytes = by_word (is_now bytes)
  where
    by_text : ¬ (IsNow bytes) → Decided (IsTextAt epoch bytes) → Decided (IsMomentText None bytes)
    by_text other (inl (dt, is)) = inl (dt, (other, λ now. text_anywhen bytes epoch now dt other is))
    by_text other (inr none) = inr (λ dt h. none dt (h.1 epoch))

    by_word : Either (IsNow bytes) → Decided (IsMomentText None bytes)
    by_word (inl word) = inr (λ dt h. h.0 word)
    by_word (inr other) = by_text other (text_at_decided bytes epoch)

moment_text_once : (now : Option DateTime) (bytes : List ℕ) (a b : DateTime) → IsMomentText now bytes a → IsMomentText now bytes b → a ≡ b
moment_text_once (Some now) bytes a b h k = text_at_once bytes now a b h k
moment_text_once None bytes a b h k = text_at_once bytes epoch a b (h.1 epoch) (k.1 epoch)

none_of : (x : DateTime) → ¬ ⊥
none_of x h = h

-- any value
moment_of_scalar : (now : Option DateTime) (x : Scal) → Decided (IsMomentOfScalar now x)
moment_of_scalar now (integer n) = unix_decided n
moment_of_scalar now (boolean b) = inr none_of
moment_of_scalar now (text bytes) = moment_text_decided now bytes
moment_of_scalar now (date d) = inl (midnight d, midnight_is d)
moment_of_scalar now (date_time e) = inl (e, refl)

pub moment_of : (now : Option DateTime) (t : Tree) → Decided (IsMomentOf now t)
moment_of now nil = inr none_of
moment_of now (state s) = inr none_of
moment_of now (scalar x) = moment_of_scalar now x
moment_of now (array ts) = inr none_of
moment_of now (object ms) = inr none_of

scalar_moment_once : (now : Option DateTime) (x : Scal) (a b : DateTime) → IsMomentOfScalar now x a → IsMomentOfScalar now x b → a ≡ b
scalar_moment_once now (integer n) a b h k = same_date_time_is a b (unix_once a b n h k)
scalar_moment_once now (boolean _) a b h k = absurd h
scalar_moment_once now (text bytes) a b h k = moment_text_once now bytes a b h k
scalar_moment_once now (date d) a b h k = midnight_once d d a b refl h k
scalar_moment_once now (date_time e) a b h k = h ∙ sym k

pub moment_once : (now : Option DateTime) (t : Tree) (a b : DateTime) → IsMomentOf now t a → IsMomentOf now t b → a ≡ b
moment_once now nil a b h k = absurd h
moment_once now (state s) a b h k = absurd h
moment_once now (scalar x) a b h k = scalar_moment_once now x a b h k
moment_once now (array ts) a b h k = absurd h
moment_once now (object ms) a b h k = absurd h
