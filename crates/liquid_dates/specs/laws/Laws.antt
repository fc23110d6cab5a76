-- Laws over the definitions.
use Rattle.std.specs.Prelude.{◌≡◌, ◌<◌, ◌%◌, ℕ, List, Option, unsigned_abs}
use Rattle.liquid_dates.specs.declared.error.DateFormatError.{DateFormatError}
use Rattle.jiff_core.specs.declared.civil.date.Date.{Date as CivilDate}
use Rattle.liquid_dates.specs.declared.date_time.DateTime.{DateTime}
use Rattle.liquid_dates.specs.meaning.DateText.{IsDateText, IsDateTimeText}
use Rattle.liquid_dates.specs.meaning.Instant.{offset_seconds}
use Rattle.liquid_dates.specs.meaning.Printed.{date_text, date_time_text}
use Rattle.liquid_dates.specs.meaning.Pattern.{Item, IsReading}

-- each text has a reading
abbrev pub PatternsHaveReadings : Type 0
PatternsHaveReadings = (text : List ℕ) → (items : List Item) × (end : Option DateFormatError) × IsReading text items end

-- and only one
abbrev pub PatternsHaveOneReading : Type 0
PatternsHaveOneReading =
    (text : List ℕ) (items items₂ : List Item) (end end₂ : Option DateFormatError)
    → IsReading text items end → IsReading text items₂ end₂ → (items ≡ items₂) × (end ≡ end₂)

-- a printed date is read back as itself, at every moment
abbrev pub PrintedDatesAreRead : Type 0
PrintedDatesAreRead = (d : CivilDate) (moment : DateTime) → IsDateText (date_text d) moment d

-- and so is a printed date time, if its offset is whole minutes below 20 h
abbrev pub PrintedDateTimesAreRead : Type 0
PrintedDateTimesAreRead =
    (dt moment : DateTime)
    → unsigned_abs (offset_seconds dt) < 72_000 → unsigned_abs (offset_seconds dt) % 60 ≡ 0
    → IsDateTimeText (date_time_text dt) moment dt
