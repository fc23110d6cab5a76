-- The forms of `DateText` as relations to pairs, in the order in which the readers read their parts.
use Rattle.std.proofs.Common.{ℕ, ℤ, List}
use Rattle.jiff_core.specs.declared.civil.datetime.DateTime.{DateTime as CivilDateTime}
use Rattle.liquid_dates.specs.meaning.DateText as Text
use Rattle.liquid_dates.specs.meaning.Names.{short_month_name}

-- a relation between a text and a value that it writes
abbrev pub Form : Type 0 → Type 1
Form A = List ℕ → A → Type 0

abbrev pub joined : {A B : Type 0} → Form A → ℕ → Form B → Form (A × B)
joined F byte G text (a, b) = Text.joined (λ t. F t a) byte (λ t. G t b) text

abbrev pub two_below : ℕ → Form ℕ
two_below limit text n = Text.two_below limit n text

abbrev pub year_form : Form ℤ
year_form text y = Text.year_texts y text

abbrev pub month_form : (ℕ → List ℕ) → Form ℕ
month_form name text m = Text.month_texts name m text

abbrev pub weekday_form : Form ℕ
weekday_form text w = Text.weekday_texts w text

abbrev pub short_day : Form ℕ
short_day text n = Text.short_day n text

abbrev pub fraction_form : Form ℕ
fraction_form text nano = Text.fraction_texts nano text

abbrev pub dashed : Form (ℤ × (ℕ × ℕ))
dashed = joined year_form 45 (joined (two_below 100) 45 (two_below 100))

abbrev pub day_month : (ℕ → List ℕ) → Form (ℕ × (ℕ × ℤ))
day_month name = joined (two_below 100) 32 (joined (month_form name) 32 year_form)

abbrev pub slashed : Form (ℕ × (ℕ × ℤ))
slashed = joined (two_below 100) 47 (joined (two_below 100) 47 year_form)

abbrev pub clock : Form (ℕ × (ℕ × ℕ))
clock = joined (two_below 24) 58 (joined (two_below 60) 58 (two_below 60))

abbrev pub offset_form : Form ℤ
offset_form text z = Text.offset_texts z text

-- the hour, the minute and the second
abbrev pub hms : CivilDateTime → ℕ × (ℕ × ℕ)
hms dt = (dt.time.hour, (dt.time.minute, dt.time.second))

-- the forms of a date with a time, without the offset
abbrev pub timed_dashed : Form ((ℤ × (ℕ × ℕ)) × (ℕ × (ℕ × ℕ)))
timed_dashed = joined dashed 32 clock

abbrev pub timed_fraction : Form ((ℤ × (ℕ × ℕ)) × ((ℕ × (ℕ × ℕ)) × ℕ))
timed_fraction = joined dashed 32 (joined clock 46 fraction_form)

abbrev pub timed_day_month : (ℕ → List ℕ) → Form ((ℕ × (ℕ × ℤ)) × (ℕ × (ℕ × ℕ)))
timed_day_month name = joined (day_month name) 32 clock

abbrev pub timed_slashed : Form ((ℕ × (ℕ × ℤ)) × (ℕ × (ℕ × ℕ)))
timed_slashed = joined slashed 32 clock

abbrev pub timed_weekday : Form (ℕ × (ℕ × (ℕ × ((ℕ × (ℕ × ℕ)) × ℤ))))
timed_weekday =
    joined weekday_form 32 (joined (month_form short_month_name) 32 (joined short_day 32 (joined clock 32 year_form)))
