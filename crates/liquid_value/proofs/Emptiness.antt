-- An array or an object is empty exactly if the tree that it means is.
use Rattle.std.proofs.Common.{◌≡◌, List, [], ◌∷◌, length, String, Global, refl, ◌==◌, rules}
use Rattle.liquid_value.specs.meaning.Kind.{has_no_items, has_no_members}
use Rattle.liquid_value.specs.meaning.View.{items_view, members_view}
use Rattle.liquid_value.specs.declared.value.Value.{Value}

pub has_no_items_of_view : (vs : List Value) → has_no_items (items_view vs) ≡ (length vs == 0)
has_no_items_of_view [] = refl
has_no_items_of_view (v ∷ vs) = search rules

pub has_no_members_of_view : (es : List (String Global × Value)) → has_no_members (members_view es) ≡ (length es == 0)
has_no_members_of_view [] = refl
has_no_members_of_view (e ∷ es) = search rules
