-- Items of an array as trees, and parts of them.
use Rattle.std.proofs.Common.{◌≡◌, ℕ, ℤ, List, [], ◌∷◌, Option, None, Some, map, length, take, drop, refl, ap, ◌∙◌}
use Rattle.std.specs.List.{take-map, drop-map, AllZip}
use Rattle.std.proofs.lemmas.List.{length-map}
use Rattle.liquid_value.specs.declared.value.Value.{Value}
use Rattle.liquid_value.specs.meaning.Tree.{item}
use Rattle.liquid_value.specs.meaning.View.{view, items_of, items_view}
use Rattle.liquid_strings.specs.meaning.Slices.{count_in, sliced, sliced_at, start_in}
use Rattle.liquid_filters.specs.meaning.string.Written.{written}
use Rattle.liquid_filters.specs.meaning.value.Items.{own_items}
use Rattle.liquid_filters.proofs.OwnItems.{own_items_of}

mapped_at : (o : Option ℕ) (n : ℕ) (xs : List Value) → sliced_at o n (map view xs) ≡ map view (sliced_at o n xs)
mapped_at None n xs = refl
mapped_at (Some start) n xs = ap (take n) (drop-map view start xs) ∙ take-map view n (drop start xs)

-- the part of the items is the items of the part
pub items_sliced : (start count : ℤ) (xs : List Value) → items_of (sliced start count (own_items (items_view xs))) ≡ items_view
    (sliced start count xs)
items_sliced start count xs =
    ap (λ ts. items_of (sliced start count ts)) (own_items_of (map view xs))
    ∙ ap (λ n. items_of (sliced_at (start_in n start) (count_in count) (map view xs))) (length-map xs view)
    ∙ ap items_of (mapped_at (start_in (length xs) start) (count_in count) xs)

-- copies have the same items
pub items_copied : (xs ys : List Value) → AllZip (λ v w. view w ≡ view v) xs ys → items_view ys ≡ items_view xs
items_copied [] [] same = refl
items_copied [] (y ∷ ys) same = absurd same
items_copied (x ∷ xs) [] same = absurd same
items_copied (x ∷ xs) (y ∷ ys) same = ap (λ t. item t (items_view ys)) same.0 ∙ ap (item (view x)) (items_copied xs ys same.1)

-- texts, each as a value
pub written_each : {X : Type 0} (f : X → List ℕ) (xs : List X) → map (λ x. written (f x)) xs ≡ map written (map f xs)
written_each f [] = refl
written_each f (x ∷ xs) = ap (λ rest. written (f x) ∷ rest) (written_each f xs)
