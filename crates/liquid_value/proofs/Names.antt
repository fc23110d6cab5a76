-- The names of an object's entries are in order.
use Rattle.std.proofs.Common.{◌≡◌, List, [], ◌∷◌, true, Less, refl, ap, string_bytes, string_cmp}
use Rattle.std.specs.List.{AllByRecursion}
use Rattle.std.specs.List.Sorted.{IsStrictlySortedBy}
use Rattle.std.specs.Map.{keys_of}
use Rattle.std.specs.Ordering.{is_lt}
use Rattle.liquid_value.specs.steps.Conjunction.{both_true}
use Rattle.liquid_value.specs.laws.LooseLaws.{comes_before, in_name_order}
use Rattle.liquid_value.specs.meaning.View.{members_view}
use Rattle.liquid_value.proofs.Entries.{Entry}

before_all : (e : Entry) (es : List Entry) → AllByRecursion (λ y. string_cmp e.0 y ≡ Less) (keys_of es)
    → comes_before (string_bytes e.0) (members_view es) ≡ true
before_all e [] h = refl
before_all e (x ∷ es) h = both_true (ap is_lt h.0) (before_all e es h.1)

pub entries_in_name_order : (es : List Entry) → IsStrictlySortedBy string_cmp (keys_of es) → in_name_order (members_view es) ≡ true
unfolding IsStrictlySortedBy
entries_in_name_order [] h = refl
entries_in_name_order (e ∷ es) h = both_true (before_all e es h.0) (entries_in_name_order es h.1)
