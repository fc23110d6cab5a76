-- Arrays of different sizes.
use Rattle.std.proofs.Common.{ℕ, ◌<◌, drop, Some, Less, subst, ◌≡◌, List, [], ◌∷◌, length, Bool, true, false, ◌&&◌, refl, ap, ◌∙◌, arith}
use Rattle.liquid_value.specs.meaning.Loose.{facing, items_facing}
use Rattle.liquid_value.specs.meaning.Order.{items_cmp}
use Rattle.liquid_value.specs.meaning.Strict.{same_value, same_items}
use Rattle.liquid_value.specs.meaning.View.{view, items_view}
use Rattle.liquid_value.specs.declared.value.Value.{Value}

and_false : (b : Bool) → b && false ≡ false
and_false b = elim b as (λ c. c && false ≡ false) [ true ↦ refl | false ↦ refl ]

pub items_facing_uneven : (onward : Bool) (vs ws : List Value) → (length vs ≡ length ws → ⊥)
    → items_facing onward (items_view vs) (items_view ws) ≡ false
items_facing_uneven onward [] [] uneven = absurd (uneven refl)
items_facing_uneven onward [] (w ∷ ws) uneven = refl
items_facing_uneven onward (v ∷ vs) [] uneven = refl
items_facing_uneven onward (v ∷ vs) (w ∷ ws) uneven =
    ap (λ rest. facing onward (view v) (view w) && rest) (items_facing_uneven onward vs ws (λ even. uneven (omega (arith, even))))
    ∙ and_false _

beginning : (vs ws : List Value) → length vs < length ws → items_cmp (items_view (drop (length vs) vs))
    (items_view (drop (length vs) ws)) ≡ Some Less
beginning vs [] shorter = absurd (omega arith)
beginning [] (w ∷ ws) shorter = refl
beginning (v ∷ vs) (w ∷ ws) shorter = beginning vs ws (omega arith)

pub beginning_is_less : (vs ws : List Value) (n : ℕ) → n ≡ length vs → n < length ws
    → items_cmp (items_view (drop n vs)) (items_view (drop n ws)) ≡ Some Less
beginning_is_less vs ws n whole shorter = rw whole (beginning vs ws (subst (λ m. m < length ws) whole shorter))

pub same_items_uneven : (vs ws : List Value) → (length vs ≡ length ws → ⊥) → same_items (items_view vs) (items_view ws) ≡ false
same_items_uneven [] [] uneven = absurd (uneven refl)
same_items_uneven [] (w ∷ ws) uneven = refl
same_items_uneven (v ∷ vs) [] uneven = refl
same_items_uneven (v ∷ vs) (w ∷ ws) uneven =
    ap (λ rest. same_value (view v) (view w) && rest) (same_items_uneven vs ws (λ even. uneven (omega (arith, even)))) ∙ and_false _
