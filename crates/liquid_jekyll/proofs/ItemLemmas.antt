-- Items of an array as trees.
use Rattle.std.proofs.Common.{◌≡◌, ℕ, ◌-◌, List, map, length, take, drop, sym, ap, ◌∙◌, arith}
use Rattle.std.specs.List.{drop-map, take-map}
use Rattle.std.proofs.lemmas.List.{length-drop, length-map, take_all}
use Rattle.liquid_value.specs.declared.value.Value.{Value}
use Rattle.liquid_value.specs.meaning.Tree.{Tree}
use Rattle.liquid_value.specs.meaning.View.{view, items_view}
use Rattle.liquid_filters.specs.meaning.value.Items.{own_items}
use Rattle.liquid_jekyll.specs.declared.value.lists.End.{End}
use Rattle.liquid_jekyll.specs.meaning.value.Lists.{without}
use Rattle.liquid_filters.proofs.OwnItems.{own_items_of}

-- what is left of the items is what is left of their meanings
pub items_cut : (end : End) (n : ℕ) (xs : List Value) → without end n (own_items (items_view xs)) ≡ without end n (map view xs)
items_cut end n xs = ap (without end n) (own_items_of (map view xs))

module _ {A : Type 0} (f : A → Tree) (xs : List A) (n : ℕ) where
  pub first_cut : map f (take (length xs - n) (drop n xs)) ≡ drop n (map f xs)
  first_cut =
      ap (map f) (take_all (length xs - n) (drop n xs) (omega (arith, length-drop n xs))) ∙ sym (drop-map f n xs)

  pub last_cut : map f (take (length xs - n) xs) ≡ take (length (map f xs) - n) (map f xs)
  last_cut = sym (take-map f (length xs - n) xs) ∙ ap (λ k. take (k - n) (map f xs)) (sym (length-map xs f))
