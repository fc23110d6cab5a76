-- Where a name may be cut, and the last of several.
use Rattle.std.proofs.Common.{◌≡◌, ℕ, List, [], ◌∷◌, length, true, codes, Option, None, Some, IsUtf8, nat_eq, refl, arith}
use Rattle.std.proofs.lemmas.Bool.Decides.{nat_tests}
use Rattle.std.proofs.lemmas.Str.{IsCharBoundary-after_ascii}
use Rattle.std.specs.List.{starts_with}
use Rattle.std.specs.Option.{option_or}
use Rattle.std.specs.Str.{IsCharBoundary}

-- a text may be cut after a slash at its start
pub cuts_slash : (text : List ℕ) → IsUtf8 text → starts_with nat_eq text (codes "/") ≡ true → IsCharBoundary text 1
cuts_slash [] utf8 begins = grind arith
cuts_slash (b ∷ bs) utf8 begins = IsCharBoundary-after_ascii (b ∷ bs) 0 utf8 (omega arith) (grind (arith, nat_tests))

pub or_none : {X : Type 0} (a : Option X) → option_or a None ≡ a
or_none None = refl
or_none (Some x) = refl

pub or_again : {X : Type 0} (a b c : Option X) → option_or (option_or a b) c ≡ option_or a (option_or b c)
or_again None b c = refl
or_again (Some x) b c = refl

pub ruleset last = (or_none, or_again)
