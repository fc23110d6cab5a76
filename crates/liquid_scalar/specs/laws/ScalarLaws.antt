-- Laws of the comparisons of scalars.
use Rattle.std.specs.Prelude.{◌≡◌, true, Some, option_map}
use Rattle.std.specs.declared.cmp.Ordering.TheVariants.{Equal}
use Rattle.std.specs.Ordering.{ordering_reverse}
use Rattle.std.specs.Cmp.{IsEquivalence}
use Rattle.liquid_scalar.specs.meaning.Scalar.{Scal}
use Rattle.liquid_scalar.specs.meaning.ScalarCompare.{scalar_eq, scalar_cmp, same_scalar, scalar_hash}

-- a scalar loosely equals itself, and loose equality is symmetric
abbrev pub LooseEqualityIsReflexive : Type 0
LooseEqualityIsReflexive = (a : Scal) → scalar_eq a a ≡ true

abbrev pub LooseEqualityIsSymmetric : Type 0
LooseEqualityIsSymmetric = (a b : Scal) → scalar_eq a b ≡ scalar_eq b a

-- swapping two scalars reverses their order, or leaves them without one
abbrev pub OrderSwappedIsReversed : Type 0
OrderSwappedIsReversed = (a b : Scal) → scalar_cmp b a ≡ option_map ordering_reverse (scalar_cmp a b)

-- scalars that compare as `Equal` are loosely equal
abbrev pub EqualInOrderIsLooselyEqual : Type 0
EqualInOrderIsLooselyEqual = (a b : Scal) → scalar_cmp a b ≡ Some Equal → scalar_eq a b ≡ true

-- strict equality is an equivalence
abbrev pub StrictEqualityIsEquivalence : Type 0
StrictEqualityIsEquivalence = IsEquivalence same_scalar

-- strictly equal scalars are loosely equal, and feed a hasher the same bytes
abbrev pub StrictlyEqualIsLooselyEqual : Type 0
StrictlyEqualIsLooselyEqual = (a b : Scal) → same_scalar a b ≡ true → scalar_eq a b ≡ true

abbrev pub HashAgreesWithEquality : Type 0
HashAgreesWithEquality = (a b : Scal) → same_scalar a b ≡ true → scalar_hash a ≡ scalar_hash b
