-- The moment that a page is given for `now` and `today`.
use Rattle.std.specs.Prelude.{◌≡◌, ℕ, List, true, false, Option, None, Some}
use Rattle.std.specs.Str.{IsUtf8}
use Rattle.liquid_dates.specs.declared.date_time.DateTime.{DateTime}
use Rattle.liquid_scalar.specs.meaning.Scalar.{text}
use Rattle.liquid_value.specs.meaning.Tree.{scalar}
use Rattle.filter_dates.specs.meaning.Moments.{IsMomentOf}
use Rattle.liquid_c.specs.declared.page.Page.{Page}
use Rattle.liquid_c.specs.meaning.Options.{has_bit}

-- bytes write a moment if they are the text of it for the filter `date`; `now` and `today` write none
abbrev pub Writes : List ℕ → DateTime → Type 0
Writes bytes dt = IsUtf8 bytes × IsMomentOf None (scalar (text bytes)) dt

-- bit 4: the page has a moment. Without it, the page has none, whatever its bytes are
abbrev pub HasMoment : Page → Option DateTime → Type 0
HasMoment asked None = has_bit asked.options 16 ≡ false
HasMoment asked (Some dt) = (has_bit asked.options 16 ≡ true) × Writes asked.moment.now dt

-- the page should have a moment, but its bytes write none
abbrev pub LacksMoment : Page → Type 0
LacksMoment asked = (has_bit asked.options 16 ≡ true) × ((dt : DateTime) → ¬ (Writes asked.moment.now dt))
