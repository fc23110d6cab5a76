-- The picked items are the chosen ones.
use Rattle.std.proofs.Common.{◌≡◌, ℕ, suc, ℤ, pos, negsuc, ◌-◌, ◌≤◌, List, [], ◌∷◌, Bool, true, false}
use Rattle.std.proofs.Common.{cond, Option, None, Some, Result, Ok, drop, refl, sym, ap, ◌∙◌, subst, arith}
use Rattle.std.proofs.Math.ListN.{drop_of_length-le}
use Rattle.std.specs.Prelude.{take, unwrap_or}
use Rattle.std.proofs.Math.Dec.{ltb}
use Rattle.std.proofs.lemmas.Bool.{ltb-true}
use Rattle.std.proofs.lemmas.List.{drop-take, length-take}
use Rattle.liquid_error.specs.meaning.Refusal.{Refusal, ok_then}
use Rattle.liquid_value.specs.meaning.Tree.{Tree}
use Rattle.liquid_std.specs.meaning.iteration.Options.{option_number}
use Rattle.liquid_std.specs.meaning.iteration.Picked.{in_order, limited, natural, picked}
use Rattle.liquid_laws.specs.laws.loops.ForLoops.{GoesOverChosen}
use Rattle.liquid_laws.specs.meaning.loops.Chosen.{chosen}

differs : (below : Bool) (a b : ℕ) → ltb a b ≡ below → natural (cond below (negsuc (b - suc a)) (pos (a - b))) ≡ a - b
differs true a b is = let less = ltb-true a b is in omega arith
differs false a b is = refl

none_left : {A : Type 0} (offset to : ℕ) (xs : List A) → to ≤ offset → drop offset (take to xs) ≡ []
none_left offset to xs past =
    drop_of_length-le (take to xs) (subst (λ n. n ≤ offset) (sym (length-take to xs)) (omega arith))

pub limited_is : {A : Type 0} (offset : ℤ) (limit : Option ℤ) (xs : List A)
    → drop (natural offset) (limited offset limit xs) ≡ chosen offset limit xs
limited_is (pos offset) None xs = refl
limited_is (pos offset) (Some (pos limit)) xs = drop-take offset limit xs
limited_is (pos offset) (Some (negsuc l)) xs =
    ap (λ n. drop offset (take n xs)) (differs (ltb offset (suc l)) offset (suc l) refl)
    ∙ none_left offset (offset - suc l) xs (omega arith)
limited_is (negsuc n) None xs = refl
limited_is (negsuc n) (Some (pos limit)) xs = ap (λ k. take k xs) (differs (ltb limit (suc n)) limit (suc n) refl)
limited_is (negsuc n) (Some (negsuc l)) xs = refl

pub picked_is : {A : Type 0} (offset : ℤ) (limit : Option ℤ) (reversed : Bool) (xs : List A)
    → picked offset limit reversed xs ≡ in_order reversed (chosen offset limit xs)
picked_is offset limit reversed xs = ap (in_order reversed) (limited_is offset limit xs)

-- the items, once the series and both numbers are known
abbrev pickings : Bool → Result (List Tree) Refusal → Result (Option ℤ) Refusal → Result (Option ℤ) Refusal → Result (List Tree) Refusal
pickings reversed items offset limit =
    ok_then items (λ ts. ok_then offset (λ o. ok_then limit (λ n. Ok (picked (unwrap_or o (pos 0)) n reversed ts))))

pub goes_over_chosen : {Reg : Type 0} → GoesOverChosen Reg
goes_over_chosen over v l ts offset limit items starts ends =
    let reversed = l.options.is_reversed in
    ap (λ r. pickings reversed r (option_number v l.options.offset) (option_number v l.options.limit)) items
    ∙ ap (λ r. pickings reversed (Ok ts) r (option_number v l.options.limit)) starts ∙ ap (pickings reversed (Ok ts) (Ok offset)) ends
    ∙ ap (λ (us : List Tree). Ok us) (picked_is (unwrap_or offset (pos 0)) limit reversed ts)
