-- What the calls of an index do to the places of names.
use Rattle.std.proofs.Common.{◌≡◌, ℕ, List, [], ◌∷◌, Option, None, Some, Bool, true, false, cond, refl, sym, ap, ◌∙◌, String, Global}
use Rattle.std.specs.Prelude.{is_some, ◌&&◌, ◌||◌, not, string_bytes, bytes_eq}
use Rattle.std.specs.Option.{option_or}
use Rattle.std.specs.BTreeMap.{get_by_text}
use Rattle.std.specs.Ordering.{nat_cmp, is_eq}
use Rattle.std.specs.Cmp.Lexicographic.{slice_cmp}
use Rattle.std.specs.Ordering.{eq_by_cmp}
use Rattle.std.specs.declared.cmp.Ordering.{Ordering}
use Rattle.std.specs.declared.cmp.Ordering.TheVariants.{Less, Equal, Greater}
use Rattle.std.specs.Cmp.{eq_by_cmp_equiv}
use Rattle.std.specs.Cmp.Lexicographic.{nat_list_cmp_total}
use Rattle.std.proofs.lemmas.Map.Text.{is_eq-slice_cmp}
use Rattle.std.specs.Prelude.{Result, Ok, Err, OnOk, OnErr}
use Rattle.liquid_value.specs.declared.value.Value.{Value}
use Rattle.liquid_runtime.proofs.MapLaws.{names_apart}
use Rattle.liquid_runtime.proofs.Objects.{has_name}
use Rattle.liquid_scopes.specs.declared.frames.Frames.{Frames}
use Rattle.liquid_scopes.specs.steps.NamePlaces.{is_place}
use Rattle.liquid_scopes.specs.steps.Standing.{Places, stands, is_among}
use Rattle.std.proofs.Math.Bool.{and-true, or-false}

pub or_same : (b : Bool) → (b || b) ≡ b
or_same true = refl
or_same false = refl

pub among_changed : (b : Bool) (new : Frames) (old : Option Frames) (j : ℕ)
    → is_among (cond b (Some new) old) j ≡ cond b (is_place new.last new.earlier j) (is_among old j)
among_changed true new old j = refl
among_changed false new old j = refl

is_equal : (o : Ordering) → is_eq o ≡ true → o ≡ Equal
is_equal Less e = absurd (cc)
is_equal Equal e = refl
is_equal Greater e = absurd (cc)

pub same_text : (a b : List ℕ) → bytes_eq a b ≡ true → a ≡ b
same_text a b e = names_apart a b (is_equal (slice_cmp nat_cmp a b) (is_eq-slice_cmp a b ∙ e))

-- the frames of one name after a change
pub changed : (m n : Places) (bs q : List ℕ) (w : Frames) (j : ℕ) → get_by_text n q ≡ cond (bytes_eq bs q) (Some w) (get_by_text m q)
    → stands n q j ≡ cond (bytes_eq bs q) (is_place w.last w.earlier j) (stands m q j)
changed m n bs q w j e = ap (λ o. is_among o j) e ∙ among_changed (bytes_eq bs q) w (get_by_text m q) j

add_split : (b : Bool) (w v : Frames) (old : Option Frames) (j : ℕ) (e : Bool) → (b ≡ true → old ≡ Some v)
    → is_place w.last w.earlier j ≡ (is_place v.last v.earlier j || e)
    → cond b (is_place w.last w.earlier j) (is_among old j) ≡ (is_among old j || (b && e))
add_split true w v old j e h is = is ∙ ap (λ o. is_among o j || e) (sym (h refl))
add_split false w v old j e h is = sym (or-false (is_among old j))

new_split : (b : Bool) (w : Frames) (old : Option Frames) (j : ℕ) (e : Bool) → (b ≡ true → old ≡ None) → is_place w.last w.earlier j ≡ e
    → cond b (is_place w.last w.earlier j) (is_among old j) ≡ (is_among old j || (b && e))
new_split true w old j e h is = is ∙ ap (λ o. is_among o j || e) (sym (h refl))
new_split false w old j e h is = sym (or-false (is_among old j))

same_split : (b : Bool) (w v : Frames) (old : Option Frames) (j : ℕ) → (b ≡ true → old ≡ Some v)
    → is_place w.last w.earlier j ≡ is_place v.last v.earlier j → cond b (is_place w.last w.earlier j) (is_among old j) ≡ is_among old j
same_split true w v old j h is = is ∙ ap (λ o. is_among o j) (sym (h refl))
same_split false w v old j h is = refl

drop_split : (b : Bool) (w v : Frames) (old : Option Frames) (j : ℕ) (e : Bool) → (b ≡ true → old ≡ Some v)
    → is_place w.last w.earlier j ≡ (is_place v.last v.earlier j && not e)
    → cond b (is_place w.last w.earlier j) (is_among old j) ≡ (is_among old j && not (b && e))
drop_split true w v old j e h is = is ∙ ap (λ o. is_among o j && not e) (sym (h refl))
drop_split false w v old j e h is = sym (and-true (is_among old j))

at_same : (m : Places) (bs q : List ℕ) (o : Option Frames) → o ≡ get_by_text m bs → bytes_eq bs q ≡ true → get_by_text m q ≡ o
at_same m bs q o is e = ap (get_by_text m) (sym (same_text bs q e)) ∙ sym is

pub added_frame : (m n : Places) (bs q : List ℕ) (v w : Frames) (j : ℕ) (e : Bool) → Some v ≡ get_by_text m bs
    → get_by_text n q ≡ cond (bytes_eq bs q) (Some w) (get_by_text m q) → is_place w.last w.earlier j ≡ (is_place v.last v.earlier j || e)
    → stands n q j ≡ (stands m q j || (bytes_eq bs q && e))
added_frame m n bs q v w j e is up h =
    changed m n bs q w j up ∙ add_split (bytes_eq bs q) w v (get_by_text m q) j e (at_same m bs q (Some v) is) h

pub same_frames : (m n : Places) (bs q : List ℕ) (v w : Frames) (j : ℕ) → Some v ≡ get_by_text m bs
    → get_by_text n q ≡ cond (bytes_eq bs q) (Some w) (get_by_text m q) → is_place w.last w.earlier j ≡ is_place v.last v.earlier j
    → stands n q j ≡ stands m q j
same_frames m n bs q v w j is up h =
    changed m n bs q w j up ∙ same_split (bytes_eq bs q) w v (get_by_text m q) j (at_same m bs q (Some v) is) h

pub dropped_frame : (m n : Places) (bs q : List ℕ) (v w : Frames) (j : ℕ) (e : Bool) → Some v ≡ get_by_text m bs
    → get_by_text n q ≡ cond (bytes_eq bs q) (Some w) (get_by_text m q)
    → is_place w.last w.earlier j ≡ (is_place v.last v.earlier j && not e) → stands n q j ≡ (stands m q j && not (bytes_eq bs q && e))
dropped_frame m n bs q v w j e is up h =
    changed m n bs q w j up ∙ drop_split (bytes_eq bs q) w v (get_by_text m q) j e (at_same m bs q (Some v) is) h

pub new_name : (m n : Places) (bs q : List ℕ) (w : Frames) (j : ℕ) (e : Bool) → None ≡ get_by_text m bs
    → get_by_text n q ≡ cond (bytes_eq bs q) (Some w) (get_by_text m q) → is_place w.last w.earlier j ≡ e
    → stands n q j ≡ (stands m q j || (bytes_eq bs q && e))
new_name m n bs q w j e is up h = changed m n bs q w j up ∙ new_split (bytes_eq bs q) w (get_by_text m q) j e (at_same m bs q None is) h

pub on_ok : {A E P Q : Type 0} (o : Result A E) → (P → Q) → OnOk o P → OnOk o Q
on_ok (Ok x) f h = f h
on_ok (Err e) f h = h

pub on_err : {A E P Q : Type 0} (o : Result A E) → (P → Q) → OnErr o P → OnErr o Q
on_err (Ok x) f h = h
on_err (Err e) f h = f h

cond-or : (b : Bool) (v : Value) (o : Option Value) → is_some (cond b (Some v) o) ≡ (b || is_some o)
cond-or true v o = refl
cond-or false v o = refl

-- one more entry
pub has_more : (k : String Global) (v : Value) (es : List (String Global × Value)) (q : List ℕ)
    → has_name q ((k, v) ∷ es) ≡ (bytes_eq (string_bytes k) q || has_name q es)
has_more k v es q =
    let same : eq_by_cmp (slice_cmp nat_cmp) q (string_bytes k) ≡ bytes_eq (string_bytes k) q =
    sym (sym (is_eq-slice_cmp (string_bytes k) q) ∙ (eq_by_cmp_equiv nat_list_cmp_total).symm (string_bytes k) q) in
    cond-or (eq_by_cmp (slice_cmp nat_cmp) q (string_bytes k)) v _ ∙ ap (λ b. b || has_name q es) same

pub note_moves : (S b r e : Bool) → ((S || (b && e)) || (r && e)) ≡ (S || ((b || r) && e))
note_moves true b r e = refl
note_moves false true r true = refl
note_moves false true true false = refl
note_moves false true false false = refl
note_moves false false r e = refl

pub stays_there : (S Y O : Bool) → (S || O) ≡ S → ((S || Y) || O) ≡ (S || Y)
stays_there true Y O h = refl
stays_there false true O h = refl
stays_there false false O h = h

pub partly_noted : (S O X Y : Bool) → (S || Y) ≡ (O || X) → (S || O) ≡ S → (S || X) ≡ (O || X)
partly_noted true true X Y h m = refl
partly_noted true false true Y h m = refl
partly_noted true false false Y h m = h
partly_noted false true X Y h m = absurd (cc)
partly_noted false false X Y h m = refl

pub forget_moves : (S b r e : Bool) → ((S && not (b && e)) && not (r && e)) ≡ (S && not ((b || r) && e))
forget_moves false b r e = refl
forget_moves true true r true = refl
forget_moves true true true false = refl
forget_moves true true false false = refl
forget_moves true false r e = refl

-- what was noted in part is forgotten again
pub undone : (S O X : Bool) → (S || X) ≡ (O || X) → (O && X) ≡ false → (S && not X) ≡ O
undone true true true h z = absurd (cc)
undone true true false h z = refl
undone true false true h z = refl
undone true false false h z = h
undone false true true h z = absurd (cc)
undone false true false h z = h
undone false false X h z = refl

and_twice : (b e : Bool) → ((b && e) && e) ≡ (b && e)
and_twice true true = refl
and_twice true false = refl
and_twice false e = refl

-- names of one object that are forgotten after those of another
pub both_forgotten : {A : Type 0} (x y z e : Bool) (a b : Option A) → y ≡ (x && not (is_some b && e)) → z ≡ (y && not (is_some a && e))
    → z ≡ (x && not (is_some (option_or a b) && e))
both_forgotten x y z e None b h k = k ∙ and-true y ∙ h
both_forgotten x y z e (Some v) None h k = k ∙ ap (λ w. w && not e) (h ∙ and-true x)
both_forgotten x y z e (Some v) (Some u) h k = k ∙ ap (λ w. w && not e) h ∙ and_twice x (not e)

-- names of one object that are noted in part after those of another
pub both_partly : {A : Type 0} (x y z e : Bool) (a b : Option A) → (y || (is_some b && e)) ≡ (x || (is_some b && e))
    → (z || (is_some a && e)) ≡ (y || (is_some a && e))
    → (z || (is_some (option_or a b) && e)) ≡ (x || (is_some (option_or a b) && e))
both_partly x y z e None b h k = ap (λ w. w || (is_some b && e)) (sym (or-false z) ∙ k ∙ or-false y) ∙ h
both_partly x y z e (Some v) None h k = k ∙ ap (λ w. w || e) (sym (or-false y) ∙ h ∙ or-false x)
both_partly x y z e (Some v) (Some u) h k = k ∙ h
