-- Whole texts that are dates.
use Rattle.std.proofs.Common.{
  ◌≡◌,
  inl,
  inr,
  ℕ,
  List,
  [],
  ◌∷◌,
  refl,
  sym,
  ap,
  ◌∙◌,
  Option,
  Some,
  None,
  option_map,
  ℤ,
  unwrap_or,
  IfSome,
  IfNone,
  IsSomeAnd,
}
use Rattle.std.specs.Borrow.{Bor}
use Rattle.jiff_core.specs.declared.civil.date.Date.{Date as CivilDate}
use Rattle.liquid_dates.specs.declared.reading.Ymd.{Ymd}
use Rattle.liquid_dates.specs.meaning.Names.{month_name, short_month_name}
use Rattle.liquid_dates.specs.meaning.DateText.{iso_date, long_date, short_date, date_forms, SameDate}
use Rattle.liquid_dates.proofs.PairForms.{dashed, day_month}
use Rattle.liquid_dates.specs.steps.DateReader.{Read, read_of, whole_of, by_day}
use Rattle.liquid_dates.specs.steps.DateReader.{by_year, read_long_date, read_short_date, read_iso_date, IsWholeDate}
use Rattle.liquid_dates.proofs.DateTextLemmas.{whole_sound, whole_complete, long_reads, short_reads, dashed_reads}

pub whole_some : {A : Type 0} (a v : A) (rest : List ℕ) → whole_of (Some (a, rest)) ≡ Some v → (rest ≡ []) × (a ≡ v)
whole_some a v [] e = (refl, ap (λ o. unwrap_or o a) e)
whole_some a v (c ∷ cs) e = cc

-- what a date is read as, in the order of a form that writes the day first
abbrev day_first : CivilDate → ℕ × (ℕ × ℤ)
day_first d = (d.day, (d.month, d.year))

by_day_whole : (r : Read (ℕ × (ℕ × ℤ))) (read : Option (Ymd × Bor (List ℕ))) (d : CivilDate) → option_map by_day (read_of read) ≡ r
    → IsWholeDate read d → whole_of r ≡ Some (day_first d)
by_day_whole r None d e h = absurd h
by_day_whole r (Some (ymd, rest)) d e h =
    sym (ap whole_of e) ∙ rw (h.0, h.1, h.2, h.3) refl

whole_by_day : (r : Read (ℕ × (ℕ × ℤ))) (read : Option (Ymd × Bor (List ℕ))) (d : CivilDate) → option_map by_day (read_of read) ≡ r
    → whole_of r ≡ Some (day_first d) → IsWholeDate read d
whole_by_day r None d e h = let none = ap whole_of e ∙ h in cc
whole_by_day r (Some (ymd, rest)) d e h =
    let w = whole_some (ymd.day, (ymd.month, ymd.year)) (day_first d) rest.now (ap whole_of e ∙ h) in
    (w.0, ap (λ p. p.1.1) w.1, ap (λ p. p.1.0) w.1, ap (λ p. p.0) w.1)

abbrev year_first : CivilDate → ℤ × (ℕ × ℕ)
year_first d = (d.year, (d.month, d.day))

by_year_whole : (r : Read (ℤ × (ℕ × ℕ))) (read : Option (Ymd × Bor (List ℕ))) (d : CivilDate) → option_map by_year (read_of read) ≡ r
    → IsWholeDate read d → whole_of r ≡ Some (year_first d)
by_year_whole r None d e h = absurd h
by_year_whole r (Some (ymd, rest)) d e h =
    sym (ap whole_of e) ∙ rw (h.0, h.1, h.2, h.3) refl

whole_by_year : (r : Read (ℤ × (ℕ × ℕ))) (read : Option (Ymd × Bor (List ℕ))) (d : CivilDate) → option_map by_year (read_of read) ≡ r
    → whole_of r ≡ Some (year_first d) → IsWholeDate read d
whole_by_year r None d e h = let none = ap whole_of e ∙ h in cc
whole_by_year r (Some (ymd, rest)) d e h =
    let w = whole_some (ymd.year, (ymd.month, ymd.day)) (year_first d) rest.now (ap whole_of e ∙ h) in
    (w.0, ap (λ p. p.0) w.1, ap (λ p. p.1.0) w.1, ap (λ p. p.1.1) w.1)

-- the date that was read has the form, and a date of the form is the one that was read
pub long_found : (text : List ℕ) (read : Option (Ymd × Bor (List ℕ))) (d : CivilDate)
    → option_map by_day (read_of read) ≡ read_long_date text
    → IsWholeDate read d → long_date text d
unfolding long_date
long_found text read d e h = whole_sound (day_month month_name) read_long_date long_reads text (day_first d)
    (by_day_whole (read_long_date text) read d e h)

pub long_whole : (text : List ℕ) (read : Option (Ymd × Bor (List ℕ))) (d : CivilDate)
    → option_map by_day (read_of read) ≡ read_long_date text
    → long_date text d → IsWholeDate read d
unfolding long_date
long_whole text read d e h = whole_by_day (read_long_date text) read d e
    (whole_complete (day_month month_name) read_long_date long_reads text (day_first d) h)

pub short_found : (text : List ℕ) (read : Option (Ymd × Bor (List ℕ))) (d : CivilDate)
    → option_map by_day (read_of read) ≡ read_short_date text
    → IsWholeDate read d → short_date text d
unfolding short_date
short_found text read d e h = whole_sound (day_month short_month_name) read_short_date short_reads text (day_first d)
    (by_day_whole (read_short_date text) read d e h)

pub short_whole : (text : List ℕ) (read : Option (Ymd × Bor (List ℕ))) (d : CivilDate)
    → option_map by_day (read_of read) ≡ read_short_date text
    → short_date text d → IsWholeDate read d
unfolding short_date
short_whole text read d e h = whole_by_day (read_short_date text) read d e
    (whole_complete (day_month short_month_name) read_short_date short_reads text (day_first d) h)

pub dashed_found : (text : List ℕ) (read : Option (Ymd × Bor (List ℕ))) (d : CivilDate)
    → option_map by_year (read_of read) ≡ read_iso_date text → IsWholeDate read d → iso_date text d
unfolding iso_date
dashed_found text read d e h = whole_sound dashed read_iso_date dashed_reads text (year_first d)
    (by_year_whole (read_iso_date text) read d e h)

pub dashed_whole : (text : List ℕ) (read : Option (Ymd × Bor (List ℕ))) (d : CivilDate)
    → option_map by_year (read_of read) ≡ read_iso_date text → iso_date text d → IsWholeDate read d
unfolding iso_date
dashed_whole text read d e h = whole_by_year (read_iso_date text) read d e
    (whole_complete dashed read_iso_date dashed_reads text (year_first d) h)

-- a text has one date by each form, and so by the first that fits
long_once : (text : List ℕ) (a b : CivilDate) → long_date text a → long_date text b → SameDate a b
unfolding long_date
long_once text a b h k =
    let e : Some (day_first a) ≡ Some (day_first b) = sym
    (whole_complete (day_month month_name) read_long_date long_reads text (day_first a) h)
    ∙ whole_complete (day_month month_name) read_long_date long_reads text (day_first b) k in
    let p : day_first a ≡ day_first b = ap (λ o. unwrap_or o (day_first a)) e in
    (ap (λ q. q.1.1) p, ap (λ q. q.1.0) p, ap (λ q. q.0) p)

short_once : (text : List ℕ) (a b : CivilDate) → short_date text a → short_date text b → SameDate a b
unfolding short_date
short_once text a b h k =
    let e : Some (day_first a) ≡ Some (day_first b) =
    sym (whole_complete (day_month short_month_name) read_short_date short_reads text (day_first a) h)
    ∙ whole_complete (day_month short_month_name) read_short_date short_reads text (day_first b) k in
    let p : day_first a ≡ day_first b = ap (λ o. unwrap_or o (day_first a)) e in
    (ap (λ q. q.1.1) p, ap (λ q. q.1.0) p, ap (λ q. q.0) p)

dashed_once : (text : List ℕ) (a b : CivilDate) → iso_date text a → iso_date text b → SameDate a b
unfolding iso_date
dashed_once text a b h k =
    let e : Some (year_first a) ≡ Some (year_first b) = sym (whole_complete dashed read_iso_date dashed_reads text (year_first a) h)
    ∙ whole_complete dashed read_iso_date dashed_reads text (year_first b) k in
    let p : year_first a ≡ year_first b = ap (λ o. unwrap_or o (year_first a)) e in
    (ap (λ q. q.0) p, ap (λ q. q.1.0) p, ap (λ q. q.1.1) p)

pub date_once : (text : List ℕ) (a b : CivilDate) → date_forms text a → date_forms text b → SameDate a b
date_once text a b (inl h) (inl k) = long_once text a b h k
date_once text a b (inl h) (inr (no_long, k)) = absurd (no_long a h)
date_once text a b (inr (no_long, h)) (inl k) = absurd (no_long b k)
date_once text a b (inr (_, inl h)) (inr (_, inl k)) = short_once text a b h k
date_once text a b (inr (_, inl h)) (inr (_, inr (no_short, k))) = absurd (no_short a h)
date_once text a b (inr (_, inr (no_short, h))) (inr (_, inl k)) = absurd (no_short b k)
date_once text a b (inr (_, inr (_, h))) (inr (_, inr (_, k))) = dashed_once text a b h k

-- a fact about a value that was found, or about every value if none was
pub found_weaker : {A : Type 0} (o : Option A) (P Q : A → Type 0) → ((a : A) → P a → Q a) → IfSome o P → IfSome o Q
found_weaker None P Q f h = h
found_weaker (Some a) P Q f h = f a h

pub none_weaker : {A B : Type 0} (o : Option A) (P Q : B → Type 0) → ((b : B) → Q b → P b) → IfNone o ((b : B) → ¬ (P b))
    → IfNone o ((b : B) → ¬ (Q b))
none_weaker None P Q f h = λ b q. h b (f b q)
none_weaker (Some a) P Q f h = h

pub first_only : (o : Option CivilDate) (text : List ℕ) (d : CivilDate) → IfSome o (λ r. date_forms text r)
    → IfNone o ((b : CivilDate) → ¬ (date_forms text b)) → date_forms text d → IsSomeAnd o (λ r. SameDate r d)
first_only None text d h k forms = absurd (k d forms)
first_only (Some r) text d h k forms = date_once text r d h forms
