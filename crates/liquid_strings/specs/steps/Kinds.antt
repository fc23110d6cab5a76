-- Kinds of parts that are left out of a string.
use Rattle.std.specs.Prelude.{ℕ, ◌<◌, List, length}
use Rattle.memchr.specs.Find.{OccursAt}
use Rattle.liquid_strings.specs.declared.tags.Kind.{Kind}

-- the opener and the closer
abbrev pub kind_of : Kind → List ℕ × List ℕ
kind_of kind = (kind.opener.now, kind.closer.now)

-- neither is empty, and the closer begins nowhere in the string from its end on
pub record FitsText (text : List ℕ) (kind : Kind) : Type 0 where
  pub opens : 0 < length kind.opener.now
  pub closes : 0 < length kind.closer.now
  pub last : (place : ℕ) → OccursAt text kind.closer.now place → place < kind.end
