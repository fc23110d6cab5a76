-- A walk over the items of an array of TOML, or the members of a table.
use Rattle.std.proofs.Common.{◌≡◌, ℕ, List, [], ◌∷◌, ◌++◌, Option, Some, None, Result, Err, map, refl, sym, ap, subst, ◌∙◌}
use Rattle.std.specs.Prelude.{IfSome, IfOk, IfErr}
use Rattle.std.proofs.lemmas.List.{map-append}
use Rattle.liquid_error.specs.declared.error.Error.{Error}
use Rattle.liquid_error.specs.meaning.Refusal.{Refusal}
use Rattle.liquid_error.specs.meaning.Told.{told}
use Rattle.liquid_value.specs.declared.value.Value.{Value}
use Rattle.liquid_value.specs.meaning.Members.{put_member}
use Rattle.liquid_value.specs.meaning.Tree.{Tree, Items, no_items, item, Members}
use Rattle.liquid_value.specs.meaning.View.{view, items_of}
use Rattle.toml.specs.Data as toml
use Rattle.page_site.specs.meaning.data_files.Tables.{Given, ItemsGiven, MembersGiven}

-- one more member of those that are left
pub member_step : (P : Members → Type 0) (k : List ℕ) (d : toml.Data) (ms : toml.Members) (found more : Members) (t : Tree)
    → ((ts : Members) → MembersGiven (toml.member k d ms) found ts → P ts) → Given d t → more ≡ put_member k t found
    → (ts : Members) → MembersGiven ms more ts → P ts
member_step P k d ms found more t so_far given is ts rest = so_far ts (t, given, subst (λ f. MembersGiven ms f ts) is rest)

-- the items with others before them
abbrev pub joined : List Tree → Items → Items
joined [] ts = ts
joined (x ∷ xs) ts = item x (joined xs ts)

joined_last : (xs : List Tree) (x : Tree) (ts : Items) → joined (xs ++ x ∷ []) ts ≡ joined xs (item x ts)
joined_last [] x ts = refl
joined_last (y ∷ xs) x ts = ap (item y) (joined_last xs x ts)

pub joined_all : (xs : List Tree) → joined xs no_items ≡ items_of xs
joined_all [] = refl
joined_all (x ∷ xs) = ap (item x) (joined_all xs)

-- one more item of those that are left
pub item_step : (P : Items → Type 0) (d : toml.Data) (ds : toml.Items) (done : List Value) (v : Value)
    → ((ts : Items) → ItemsGiven (toml.item d ds) ts → P (joined (map view done) ts)) → Given d (view v)
    → (ts : Items) → ItemsGiven ds ts → P (joined (map view (done ++ v ∷ [])) ts)
item_step P d ds done v so_far given ts rest =
    let here : P (joined (map view done) (item (view v) ts)) = so_far (item (view v) ts) (view v, ts, given, rest, refl) in
    subst P (sym (joined_last (map view done) (view v) ts) ∙ ap (λ xs. joined xs ts) (sym (map-append view done (v ∷ [])))) here

-- a refusal of one is a refusal of all
pub refused_within : (told : Option Refusal) (P Q : Refusal → Type 0) → ((r : Refusal) → P r → Q r) → IfSome told P → IfSome told Q
refused_within None P Q wider refused = tt
refused_within (Some r) P Q wider refused = wider r refused

pub err_refuses : {A : Type 0} (result : Result A Error) (e : Error) (P : A → Type 0) (Q : Refusal → Type 0) → result ≡ Err e
    → IfSome (told e) Q → IfOk result P × IfErr result (λ e. IfSome (told e) Q)
err_refuses result e P Q is refused = rw is (tt, refused)
