-- The JSON of the items and entries of values.
use Rattle.std.proofs.Common.{◌≡◌, ℕ, List, [], ◌∷◌, String, Global, map, string_bytes, refl, sym, ap, ◌∙◌}
use Rattle.std.proofs.lemmas.Simd.{map-map}
use Rattle.serde_json.specs.Data as json
use Rattle.serde_json.specs.View.{view as json_view, items_of, members_view as json_members}
use Rattle.serde_json.specs.declared.value.Value.{Value as Json}
use Rattle.liquid_value.specs.meaning.View.{view, items_view, members_view}
use Rattle.liquid_value.specs.declared.value.Value.{Value}
use Rattle.liquid_json.proofs.Collected.{named}
use Rattle.liquid_json.specs.steps.Named.{json_entry, shown_entry}
use Rattle.liquid_json.specs.meaning.Shown.{value_shown, items_shown, members_shown}

pub items_shown-map : (vs : List Value) → items_shown (items_view vs) ≡ items_of (map (λ v. value_shown (view v)) vs)
items_shown-map [] = refl
items_shown-map (v ∷ vs) = ap (json.item (value_shown (view v))) (items_shown-map vs)

-- the members of names and JSON
members_of : List (List ℕ × json.Data) → json.Members
members_of [] = json.no_members
members_of (e ∷ es) = json.member e.0 e.1 (members_of es)

json_members_of : (es : List (String Global × Json)) → json_members es ≡ members_of (map json_entry es)
unfolding members_of
json_members_of [] = refl
json_members_of (e ∷ es) = ap (json.member (string_bytes e.0) (json_view e.1)) (json_members_of es)

members_shown_of : (es : List (String Global × Value)) → members_shown (members_view es) ≡ members_of (map shown_entry es)
unfolding members_of
members_shown_of [] = refl
members_shown_of (e ∷ es) = ap (json.member (string_bytes e.0) (value_shown (view e.1))) (members_shown_of es)

-- entries that are the same by name have the same members
pub json_members_by_name : (xs ys : List (String Global × Json)) → map named xs ≡ map named ys → json_members xs ≡ json_members ys
json_members_by_name xs ys same =
    json_members_of xs ∙ ap members_of (sym (map-map viewed named xs) ∙ ap (map viewed) same ∙ map-map viewed named ys)
    ∙ sym (json_members_of ys)
  where
    viewed : List ℕ × Json → List ℕ × json.Data
    viewed e = (e.0, json_view e.1)

pub members_shown-listed : (listed : List (String Global × Json)) (es : List (String Global × Value))
    → map json_entry listed ≡ map shown_entry es → json_members listed ≡ members_shown (members_view es)
members_shown-listed listed es shown = json_members_of listed ∙ ap members_of shown ∙ sym (members_shown_of es)

pub names_shown : (listed : List (String Global × Json)) (es : List (String Global × Value)) → map json_entry listed ≡ map shown_entry es
    → map (λ e. string_bytes e.0) listed ≡ map (λ e. string_bytes e.0) es
names_shown listed es same = sym (map-map name json_entry listed) ∙ ap (map name) same ∙ map-map name shown_entry es
  where
    name : List ℕ × json.Data → List ℕ
    name e = e.0
