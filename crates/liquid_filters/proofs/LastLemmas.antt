-- The last item of an array.
use Rattle.std.proofs.Common.{Bor, ◌≡◌, ◌-◌, List, [], ◌∷◌, length, Option, None, Some, refl, ap, ◌∙◌, arith}
use Rattle.std.specs.Prelude.{option_map, unwrap_or, slice_get}
use Rattle.std.specs.Option.{option_copied}
use Rattle.liquid_value.specs.declared.value.Value.{Value}
use Rattle.liquid_value.specs.meaning.Tree.{Tree, nil}
use Rattle.liquid_value.specs.meaning.View.{view, items_view}
use Rattle.liquid_filters.specs.meaning.list.Lists.{last_item}

last_item-at : (t : Tree) (v : Value) (vs : List Value) → unwrap_or (option_map view (slice_get (v ∷ vs) (length vs))) t ≡ last_item t
    (items_view (v ∷ vs))
last_item-at t v [] = refl
last_item-at t v (w ∷ ws) = last_item-at t w ws

read_at : (t : Tree) (vs : List Value) (r : Option Value) → r ≡ slice_get vs (length vs - 1)
    → unwrap_or (option_map view r) t ≡ last_item t (items_view vs)
read_at t [] r is = ap (λ o. unwrap_or (option_map view o) t) is
read_at t (v ∷ vs) r is =
    let place : length (v ∷ vs) - 1 ≡ length vs = omega arith in
    ap (λ o. unwrap_or (option_map view o) t) (is ∙ ap (slice_get (v ∷ vs)) place) ∙ last_item-at t v vs

-- what a slice gives at its last place, or nil, is the last item
pub last_item-read : (vs : List Value) (r : Option (Bor Value)) → option_copied r ≡ slice_get vs (length vs - 1)
    → unwrap_or (option_map (λ v. view v.now) r) nil ≡ last_item nil (items_view vs)
last_item-read vs None is = read_at nil vs None is
last_item-read vs (Some v) is = read_at nil vs (Some v.now) is
