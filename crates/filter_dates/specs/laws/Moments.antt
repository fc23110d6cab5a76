-- Laws of moments.
use Rattle.std.specs.Prelude.{◌≡◌, Option}
use Rattle.liquid_dates.specs.declared.date_time.DateTime.{DateTime}
use Rattle.liquid_value.specs.meaning.Tree.{Tree}
use Rattle.filter_dates.specs.meaning.Moments.{IsMomentOf}

-- no value means two moments
abbrev pub ValuesHaveOneMoment : Type 0
ValuesHaveOneMoment = (now : Option DateTime) (t : Tree) (a b : DateTime) → IsMomentOf now t a → IsMomentOf now t b → a ≡ b
