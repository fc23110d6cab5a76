-- Laws of the filter `date`.
use Rattle.std.specs.Prelude.{◌≡◌, ◌≢◌, ℕ, List, [], ◌∷◌, Option, Result, Ok}
use Rattle.std.specs.Str.{chars}
use Rattle.liquid_dates.specs.declared.date_time.DateTime.{DateTime}
use Rattle.liquid_dates.specs.declared.error.DateFormatError.{DateFormatError}
use Rattle.liquid_dates.specs.meaning.Pattern.{FormatsTo}
use Rattle.liquid_value.specs.meaning.Render.{render}
use Rattle.liquid_value.specs.meaning.Tree.{Tree}
use Rattle.filter_dates.specs.meaning.Moments.{IsMomentOf}
use Rattle.liquid_filters.specs.meaning.Dates.{dated, printed}

-- for an input that means a moment it returns what the moment prints by the pattern
abbrev pub MomentsArePrinted : Type 0
MomentsArePrinted =
    (now : Option DateTime) (input pattern : Tree) (dt : DateTime) (answer : Result (List ℕ) DateFormatError)
    → render pattern ≢ [] → IsMomentOf now input dt → FormatsTo dt (chars (render pattern)) answer
    → dated now input (pattern ∷ []) ≡ printed (render pattern) answer

-- any other input is returned
abbrev pub OthersAreKept : Type 0
OthersAreKept =
    (now : Option DateTime) (input pattern : Tree) → ((dt : DateTime) → ¬ (IsMomentOf now input dt))
    → dated now input (pattern ∷ []) ≡ Ok input
