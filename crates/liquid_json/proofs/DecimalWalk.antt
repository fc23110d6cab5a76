-- A walk over the items of an array, or the members of an object, some of which are values already.
use Rattle.std.proofs.Common.{◌≡◌, ℕ, List, [], ◌∷◌, ◌++◌, Result, Ok, Err, Option, Some, None, map, refl, sym, ap, ◌∙◌}
use Rattle.std.specs.Prelude.{IfSome}
use Rattle.std.proofs.lemmas.List.{map-append}
use Rattle.json.specs.Json as json
use Rattle.liquid_error.specs.declared.error.Error.{Error}
use Rattle.liquid_error.specs.meaning.Refusal.{Refusal, ok_then}
use Rattle.liquid_error.specs.meaning.Told.{told, Gives}
use Rattle.liquid_value.specs.meaning.Members.{put_member}
use Rattle.liquid_value.specs.meaning.Tree.{Tree, Items, no_items, item, Members}
use Rattle.liquid_value.specs.meaning.View.{view, items_of, items_view}
use Rattle.liquid_value.specs.declared.value.Value.{Value}
use Rattle.liquid_json.specs.meaning.decimals.Given.{value_given, items_given, members_given}

-- the items with others before them
joined : List Tree → Items → Items
joined [] ts = ts
joined (x ∷ xs) ts = item x (joined xs ts)

-- what the items that are left give, after those that are values already
pub after_items : List Tree → Result Items Refusal → Result Items Refusal
after_items done rest = ok_then rest (λ ts. Ok (joined done ts))

pub no_item_yet : (rest : Result Items Refusal) → rest ≡ after_items [] rest
unfolding after_items joined
no_item_yet (Ok ts) = refl
no_item_yet (Err r) = refl

joined_last : (xs : List Tree) (x : Tree) (ts : Items) → joined xs (item x ts) ≡ joined (xs ++ x ∷ []) ts
unfolding joined
joined_last [] x ts = refl
joined_last (y ∷ xs) x ts = ap (item y) (joined_last xs x ts)

item_after : (done : List Tree) (t : Tree) (rest : Result Items Refusal)
    → after_items done (ok_then rest (λ ts. Ok (item t ts))) ≡ after_items (done ++ t ∷ []) rest
unfolding after_items
item_after done t (Ok ts) = ap Ok (joined_last done t ts)
item_after done t (Err r) = refl

pub item_given : (all : Result Items Refusal) (done : List Value) (v : Value) (j : json.Json) (js : json.Items)
    → all ≡ after_items (map view done) (items_given (json.item j js))
    → value_given j ≡ Ok (view v) → all ≡ after_items (map view (done ++ v ∷ [])) (items_given js)
item_given all done v j js so_far is =
    so_far ∙ ap (λ first. after_items (map view done) (ok_then first (λ t. ok_then (items_given js) (λ ts. Ok (item t ts))))) is
    ∙ item_after (map view done) (view v) (items_given js)
    ∙ ap (λ trees. after_items trees (items_given js)) (sym (map-append view done (v ∷ [])))

item_refused : (all : Result Items Refusal) (done : List Tree) (j : json.Json) (js : json.Items) (r : Refusal)
    → all ≡ after_items done (items_given (json.item j js)) → value_given j ≡ Err r → all ≡ Err r
unfolding after_items
item_refused all done j js r so_far is =
    so_far ∙ ap (λ first. after_items done (ok_then first (λ t. ok_then (items_given js) (λ ts. Ok (item t ts))))) is

pub item_refusal : (all : Result Items Refusal) (done : List Tree) (j : json.Json) (js : json.Items) (t : Option Refusal)
    → all ≡ after_items done (items_given (json.item j js))
    → IfSome t (λ r. value_given j ≡ Err r) → IfSome t (λ r. all ≡ Err r)
item_refusal all done j js None so_far refused = tt
item_refusal all done j js (Some r) so_far refused = item_refused all done j js r so_far refused

joined_all : (xs : List Tree) → joined xs no_items ≡ items_of xs
unfolding joined
joined_all [] = refl
joined_all (x ∷ xs) = ap (item x) (joined_all xs)

pub items_done : (all : Result Items Refusal) (done : List Value) → all ≡ after_items (map view done) (items_given json.no_items)
    → all ≡ Ok (items_view done)
unfolding after_items
items_done all done so_far = so_far ∙ ap Ok (joined_all (map view done))

-- one more member of those that are left
pub member_given : (all : Result Members Refusal) (found : Members) (k : List ℕ) (t : Tree) (j : json.Json) (js : json.Members)
    → all ≡ members_given (json.member k j js) found → value_given j ≡ Ok t → all ≡ members_given js (put_member k t found)
member_given all found k t j js so_far is = so_far ∙ ap (λ first. ok_then first (λ u. members_given js (put_member k u found))) is

member_refused : (all : Result Members Refusal) (found : Members) (k : List ℕ) (j : json.Json) (js : json.Members) (r : Refusal)
    → all ≡ members_given (json.member k j js) found → value_given j ≡ Err r → all ≡ Err r
member_refused all found k j js r so_far is = so_far ∙ ap (λ first. ok_then first (λ u. members_given js (put_member k u found))) is

pub member_refusal : (all : Result Members Refusal) (found : Members) (k : List ℕ) (j : json.Json) (js : json.Members) (t : Option Refusal)
    → all ≡ members_given (json.member k j js) found
    → IfSome t (λ r. value_given j ≡ Err r) → IfSome t (λ r. all ≡ Err r)
member_refusal all found k j js None so_far refused = tt
member_refusal all found k j js (Some r) so_far refused = member_refused all found k j js r so_far refused

pub refuses : {A B : Type 0} (f : A → B) (result : Result A Error) (e : Error) (meant : Result B Refusal) → result ≡ Err e
    → IfSome (told e) (λ r. meant ≡ Err r) → Gives f result meant
refuses f result e meant is refused = rw is refused
