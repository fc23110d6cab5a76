-- Laws of strict equality.
use Rattle.std.specs.Prelude.{◌≡◌, true}
use Rattle.std.specs.Cmp.{IsEquivalence}
use Rattle.liquid_value.specs.meaning.Strict.{same_value, value_hash}
use Rattle.liquid_value.specs.meaning.Tree.{Tree}

-- strict equality is an equivalence
abbrev pub StrictEqualityIsEquivalence : Type 0
StrictEqualityIsEquivalence = IsEquivalence same_value

-- strictly equal values feed a hasher the same bytes
abbrev pub HashAgreesWithEquality : Type 0
HashAgreesWithEquality = (l r : Tree) → same_value l r ≡ true → value_hash l ≡ value_hash r
