use Rattle.std.proofs.Common.{◌≡◌, List, length}
use Rattle.std.specs.Str.{chars, IsUtf8}
use Rattle.std.specs.String.{string_bytes}
use Rattle.liquid_dates.specs.meaning.Pattern.{Item, IsFront, print}
use Rattle.liquid_dates.proofs.date_time.DateTime.format.Given as goal

abbrev pub invariant-directives : goal.invariant-directives
invariant-directives l =
    (items : List Item) × IsFront (chars l.pattern) items (chars l.rest)
    × (string_bytes l.out ≡ print l.self items) × IsUtf8 l.rest

abbrev pub decreases-directives : goal.decreases-directives
decreases-directives l = length (chars l.rest)
