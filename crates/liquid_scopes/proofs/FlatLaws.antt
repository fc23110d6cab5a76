-- What pushing and popping a frame does to the places of names.
use Rattle.std.proofs.Common.{
  ◌≡◌,
  ℕ,
  zero,
  suc,
  ◌<◌,
  ◌≤◌,
  List,
  [],
  ◌∷◌,
  ◌++◌,
  length,
  map,
  get_or,
  Option,
  None,
  Some,
  Bool,
  true,
  false,
  cond,
  refl,
  sym,
  ap,
  ◌∙◌,
  arith,
}
use Rattle.std.proofs.lemmas.Bool.Decides.{nat_tests}
use Rattle.std.specs.Prelude.{is_some, is_none, nat_eq, ◌&&◌, ◌||◌, not}
use Rattle.std.specs.Option.{option_or}
use Rattle.liquid_value.specs.meaning.Tree.{Tree}
use Rattle.liquid_scopes.specs.steps.Layers.{
  Layer,
  none_layer,
  stack_layer,
  global_layer,
  sandboxed_layer,
  isolated_layer,
  is_global,
  assigned,
  assigning,
  GlobalAt,
}
use Rattle.liquid_scopes.specs.steps.NamePlaces.{is_at}
use Rattle.liquid_scopes.specs.steps.Standing.{own, own_at, has_at, listed_at}
use Rattle.liquid_scopes.proofs.Unlisted.{absent}
use Rattle.liquid_scopes.proofs.LayerLaws.{map_append, map_length}
use Rattle.std.specs.Prelude.{bytes_eq}
use Rattle.std.specs.Ordering.{nat_cmp, eq_by_cmp}
use Rattle.std.specs.Cmp.{eq_by_cmp_equiv}
use Rattle.std.specs.Cmp.Lexicographic.{slice_cmp, nat_list_cmp_total}
use Rattle.std.specs.FinMap.{get, insert, get-insert}
use Rattle.std.proofs.lemmas.Map.Text.{is_eq-slice_cmp}
use Rattle.std.proofs.Math.ListN.{set}
use Rattle.liquid_runtime.specs.meaning.Maps.{Names}
use Rattle.liquid_scopes.proofs.LayerLaws.{set_put}
use Rattle.liquid_scopes.proofs.TwoLooks.{suc_eq, suc_not_zero, zero_not_suc, has_at-push, nothing_after}
use Rattle.liquid_scopes.proofs.IndexLaws.{undone, same_text}
use Rattle.std.proofs.Math.Bool.{and-false}

pub or_nothing : (b : Bool) → b ≡ (b || false)
or_nothing true = refl
or_nothing false = refl

pub and_all : (b : Bool) → b ≡ (b && true)
and_all true = refl
and_all false = refl

pub ruleset no_names_stand = (or_nothing, and_all)

no_more : (a b e : Bool) → e ≡ false → a ≡ (a || (b && e))
no_more true b e h = refl
no_more false true e h = sym h
no_more false false e h = refl

some_put : (c : Bool) (t : Tree) (o : Option Tree) → is_some (cond c (Some t) o) ≡ (is_some o || c)
some_put true t None = refl
some_put true t (Some u) = refl
some_put false t None = refl
some_put false t (Some u) = refl

put_name : (m : Names) (k q : List ℕ) (t : Tree) → is_some (get (insert m k t) q) ≡ (is_some (get m q) || (bytes_eq k q && nat_eq 0 0))
put_name m k q t =
    let same : eq_by_cmp (slice_cmp nat_cmp) q k ≡ bytes_eq k q =
    sym (sym (is_eq-slice_cmp k q) ∙ (eq_by_cmp_equiv nat_list_cmp_total).symm k q) in
    ap is_some (get-insert nat_list_cmp_total m k t q) ∙ some_put (eq_by_cmp (slice_cmp nat_cmp) q k) t (get m q)
    ∙ ap (λ b. is_some (get m q) || b) (same ∙ and_all (bytes_eq k q))

same_place : (b : Bool) (j n : ℕ) → nat_eq j n ≡ b → (P : ℕ → Bool) → P n ≡ false → (P j && b) ≡ false
same_place true j n e P h = let k : j ≡ n = grind (arith, nat_tests) in ap (λ i. P i && true) k ∙ ap (λ b. b && true) h
same_place false j n e P h = and-false (P j)

-- one more place, which is not listed
over_new : (A o e : Bool) → (A && e) ≡ false → A ≡ ((A || (o && e)) && not e)
over_new true o true h = absurd (cc)
over_new true o false h = refl
over_new false true true h = refl
over_new false true false h = refl
over_new false false e h = refl

-- the unlisted place is listed
listed_now : (A o e : Bool) → (e ≡ true → A ≡ o) → ((A && not e) || (o && e)) ≡ (A && true)
listed_now true true true h = refl
listed_now true false true h = let k = h refl in absurd (cc)
listed_now true o false h = refl
listed_now false true true h = let k = h refl in absurd (cc)
listed_now false true false h = refl
listed_now false false e h = refl

part_undone : (A o e : Bool) → ((A && not e) && (o && e)) ≡ false
part_undone true o true = refl
part_undone true true false = refl
part_undone true false false = refl
part_undone false o e = refl

-- a listed place is removed
taken : (A o e w : Bool) → (A && e) ≡ false → (((A || (o && e)) && not w) && not (o && e)) ≡ (A && not w)
taken true o true w h = absurd (cc)
taken true true false true h = refl
taken true true false false h = refl
taken true false false true h = refl
taken true false false false h = refl
taken false true true true h = refl
taken false true true false h = refl
taken false true false w h = refl
taken false false e w h = refl

-- one more name at a listed place, and at the unlisted one
put_listed : (A b e w : Bool) → (e ≡ true → w ≡ false) → ((A && not w) || (b && e)) ≡ ((A || (b && e)) && not w)
put_listed true b true true h = let k = h refl in absurd (cc)
put_listed true true false true h = refl
put_listed true false false true h = refl
put_listed true b e false h = refl
put_listed false true true true h = let k = h refl in absurd (cc)
put_listed false true true false h = refl
put_listed false true false w h = refl
put_listed false false e w h = refl

at_that : (U : Option ℕ) (n j : ℕ) → is_at U n ≡ true → is_at U j ≡ nat_eq j n
at_that None n j h = absurd (cc)
at_that (Some u) n j h = let k : u ≡ n = grind (arith, nat_tests) in ap (nat_eq j) k

same_at : (U : Option ℕ) (i j : ℕ) (b : Bool) → is_at U i ≡ b → nat_eq j i ≡ true → is_at U j ≡ b
same_at U i j b h e = let k : j ≡ i = grind (arith, nat_tests) in ap (is_at U) k ∙ h

-- a value over another one
put_over : (a b : Option Tree) (c : Bool) (a' : Option Tree) → is_some a' ≡ (is_some a || c)
    → is_some (option_or a' b) ≡ (is_some (option_or a b) || c)
put_over (Some t) b c (Some u) e = refl
put_over (Some t) b c None e = absurd (cc)
put_over None None true (Some u) e = refl
put_over None (Some t) true (Some u) e = refl
put_over None b false (Some u) e = absurd (cc)
put_over None b true None e = absurd (cc)
put_over None b false None e = or_nothing (is_some b)

unchanged : (x b n : Bool) → ((x || (b && false)) && not ((b && n) && false)) ≡ x
unchanged true true true = refl
unchanged true true false = refl
unchanged true false n = refl
unchanged false true n = refl
unchanged false false n = refl

-- a noted name is removed if the frame doesn't have it
kept_or_dropped : (o : Option Tree) (A w b e : Bool) → (b ≡ true → e ≡ true → A ≡ is_some o) → (e ≡ true → w ≡ false)
    → (((A && not w) || (b && e)) && not ((b && is_none o) && e)) ≡ (A && not w)
kept_or_dropped o A w b false h k = unchanged (A && not w) b (is_none o)
kept_or_dropped o true true b true h k = let m = k refl in absurd (cc)
kept_or_dropped None true false true true h k = let m = h refl refl in absurd (cc)
kept_or_dropped (Some t) true false true true h k = refl
kept_or_dropped o true false false true h k = refl
kept_or_dropped None false w true true h k = refl
kept_or_dropped (Some t) false w true true h k = let m = h refl refl in absurd (cc)
kept_or_dropped o false w false true h k = refl

module _ {Reg : Type 0} where
  -- no frame is at the place of the next one yet
  nothing_there : (ls : List (Layer Reg)) (q : List ℕ) (j n : ℕ) → n ≡ length ls → (has_at ls q j && nat_eq j n) ≡ false
  nothing_there ls q j n e = same_place (nat_eq j n) j n refl (has_at ls q) (ap (has_at ls q) e ∙ nothing_after ls q)

  -- the places when the next frame is the unlisted one
  pub fits_push : (ls : List (Layer Reg)) (l : Layer Reg) (U : Option ℕ) (q : List ℕ) (j n : ℕ) (S : Bool) → n ≡ length ls → U ≡ None
      → S ≡ listed_at ls U q j → S ≡ listed_at (ls ++ l ∷ []) (Some n) q j
  fits_push ls l U q j n S e none fit =
      let A = has_at ls q j in
      let o = is_some (own l q) in
      fit ∙ ap (λ u. A && not (is_at u j)) none ∙ sym (and_all A) ∙ over_new A o (nat_eq j n) (nothing_there ls q j n e)
      ∙ ap (λ b. b && not (nat_eq j n)) (ap (λ i. A || (o && nat_eq j i)) e ∙ sym (has_at-push ls l q j))

  -- the next frame is the unlisted one, and isn't there yet
  pub fits_next : (ls : List (Layer Reg)) (U : Option ℕ) (q : List ℕ) (j n : ℕ) (S : Bool) → n ≡ length ls → U ≡ None
      → S ≡ listed_at ls U q j → S ≡ listed_at ls (Some n) q j
  fits_next ls U q j n S e none fit =
      fit ∙ ap (λ u. has_at ls q j && not (is_at u j)) none ∙ sym (and_all (has_at ls q j))
      ∙ sym (absent (has_at ls q) n j (nat_eq j n) refl (ap (has_at ls q) e ∙ nothing_after ls q))

  -- the places when the next frame is one without names
  pub fits_nameless : (ls : List (Layer Reg)) (l : Layer Reg) (U : Option ℕ) (q : List ℕ) (j : ℕ) (S : Bool) → own l q ≡ None
      → S ≡ listed_at ls U q j → S ≡ listed_at (ls ++ l ∷ []) U q j
  fits_nameless ls l U q j S none fit =
      let A = has_at ls q j in
      fit ∙ ap (λ b. b && not (is_at U j)) (or_nothing A ∙ ap (λ o. A || (is_some o && nat_eq j (length ls))) (sym none)
      ∙ sym (has_at-push ls l q j))

  put_own : (l : Layer Reg) (k q : List ℕ) (t : Tree) → is_global l ≡ true
      → is_some (own (assigning (insert (assigned l) k t) l) q) ≡ (is_some (own l q) || (bytes_eq k q && nat_eq 0 0))
  put_own none_layer k q t e = absurd (cc)
  put_own (stack_layer d n) k q t e = absurd (cc)
  put_own (global_layer g) k q t e = put_name g k q t
  put_own (sandboxed_layer d n s) k q t e = absurd (cc)
  put_own (isolated_layer d g n s) k q t e =
      put_over (get g q) (get d q) (bytes_eq k q && nat_eq 0 0) (get (insert g k t) q) (put_name g k q t)

  -- a global frame with one more value
  has_at-put : (before after : List (Layer Reg)) (l : Layer Reg) (k q : List ℕ) (t : Tree) (j : ℕ) → is_global l ≡ true
      → has_at (before ++ assigning (insert (assigned l) k t) l ∷ after) q
      j ≡ (has_at (before ++ l ∷ after) q j || (bytes_eq k q && nat_eq j (length before)))
  has_at-put [] after l k q t zero e = put_own l k q t e
  has_at-put [] after l k q t (suc j) e = no_more (has_at after q j) (bytes_eq k q) (nat_eq (suc j) 0) (suc_not_zero j)
  has_at-put (m ∷ before) after l k q t zero e =
      no_more (is_some (own m q)) (bytes_eq k q) (nat_eq 0 (suc (length before))) (zero_not_suc (length before))
  has_at-put (m ∷ before) after l k q t (suc j) e =
      has_at-put before after l k q t j e ∙ ap (λ b. has_at (before ++ l ∷ after) q j || (bytes_eq k q && b))
      (sym (suc_eq j (length before)))

  module _ {X : Type 0} (f : X → Layer Reg) where
    pub no_items : (xs : List X) → map f xs ≡ [] → xs ≡ []
    no_items [] e = refl
    no_items (x ∷ xs) e = absurd (cc)

    -- the own value of the layer at a place
    pub own_within : (xs : List X) (i : ℕ) (x : X) (q : List ℕ) → i < length xs → x ≡ get_or xs i x → own (f x) q ≡ own_at i (map f xs) q
    own_within [] i x q h e = absurd (omega arith)
    own_within (y ∷ xs) zero x q h e = ap (λ z. own (f z) q) e
    own_within (y ∷ xs) (suc i) x q h e = own_within xs i x q (omega arith) e

    pub own_past : (xs : List X) (i : ℕ) (q : List ℕ) → length xs ≤ i → None ≡ own_at i (map f xs) q
    own_past [] i q h = refl
    own_past (y ∷ xs) zero q h = absurd (omega arith)
    own_past (y ∷ xs) (suc i) q h = own_past xs i q (omega arith)

    pushed : (xs ys : List X) (x : X) (q : List ℕ) (j : ℕ) → ys ≡ xs ++ x ∷ []
        → has_at (map f ys) q j ≡ (has_at (map f xs) q j || (is_some (own (f x) q) && nat_eq j (length (map f xs))))
    pushed xs ys x q j is = ap (λ zs. has_at zs q j) (ap (map f) is ∙ map_append f xs (x ∷ [])) ∙ has_at-push (map f xs) (f x) q j

    -- the places when the unlisted frame is listed
    pub fits_listed : (xs : List X) (x : X) (q : List ℕ) (j i : ℕ) (S T : Bool) → own (f x) q ≡ own_at i (map f xs) q
        → S ≡ listed_at (map f xs) (Some i) q j → T ≡ (S || (is_some (own (f x) q) && nat_eq j i)) → T ≡ listed_at (map f xs) None q j
    fits_listed xs x q j i S T own_is fit noted =
        noted ∙ ap (λ b. b || (is_some (own (f x) q) && nat_eq j i)) fit
        ∙ listed_now (has_at (map f xs) q j) (is_some (own (f x) q)) (nat_eq j i)
        (λ e. let k : j ≡ i = grind (arith, nat_tests) in ap (has_at (map f xs) q) k ∙ ap is_some (sym own_is))

    -- no frame is at the unlisted place
    pub fits_past : (xs : List X) (q : List ℕ) (j i : ℕ) (S : Bool) → length xs ≤ i → S ≡ listed_at (map f xs) (Some i) q j
        → S ≡ listed_at (map f xs) None q j
    fits_past xs q j i S h fit =
        fit ∙ absent (has_at (map f xs) q) i j (nat_eq j i) refl (ap is_some (sym (own_past xs i q h))) ∙ and_all (has_at (map f xs) q j)

    -- the places after a listing that found no memory
    pub fits_undone : (xs : List X) (x : X) (q : List ℕ) (j i : ℕ) (S T V : Bool) → S ≡ listed_at (map f xs) (Some i) q j
        → (T || (is_some (own (f x) q) && nat_eq j i)) ≡ (S || (is_some (own (f x) q) && nat_eq j i))
        → V ≡ (T && not (is_some (own (f x) q) && nat_eq j i)) → V ≡ listed_at (map f xs) (Some i) q j
    fits_undone xs x q j i S T V fit part dropped = dropped
        ∙ undone T S (is_some (own (f x) q) && nat_eq j i) part (ap (λ b. b && (is_some (own (f x) q) && nat_eq j i)) fit
        ∙ part_undone (has_at (map f xs) q j) (is_some (own (f x) q)) (nat_eq j i))
        ∙ fit

    popped : (xs ys : List X) (x : X) (U : Option ℕ) (q : List ℕ) (j n : ℕ) (S : Bool) → xs ≡ ys ++ x ∷ [] → n ≡ length (map f ys)
        → S ≡ listed_at (map f xs) U q j → S ≡ ((has_at (map f ys) q j || (is_some (own (f x) q) && nat_eq j n)) && not (is_at U j))
    popped xs ys x U q j n S is e fit =
        fit ∙ ap (λ b. b && not (is_at U j)) (pushed ys xs x q j is ∙ ap
        (λ i. has_at (map f ys) q j || (is_some (own (f x) q) && nat_eq j i)) (sym e))

    -- the places after a pop of the unlisted frame
    pub fits_pop_unlisted : (xs ys : List X) (x : X) (U : Option ℕ) (q : List ℕ) (j n : ℕ) (S : Bool) → xs ≡ ys ++ x ∷ [] → n ≡ length ys
        → is_at U n ≡ true → S ≡ listed_at (map f xs) U q j → S ≡ listed_at (map f ys) None q j
    fits_pop_unlisted xs ys x U q j n S is e at fit =
        let k : n ≡ length (map f ys) = e ∙ sym (map_length f ys) in
        let A = has_at (map f ys) q j in
        let o = is_some (own (f x) q) in
        popped xs ys x U q j n S is k fit ∙ ap (λ b. (A || (o && nat_eq j n)) && not b) (at_that U n j at)
        ∙ sym (over_new A o (nat_eq j n) (nothing_there (map f ys) q j n k)) ∙ and_all A

    -- the places after a pop of a listed frame
    pub fits_pop : (xs ys : List X) (x : X) (U : Option ℕ) (q : List ℕ) (j n : ℕ) (S T : Bool) → xs ≡ ys ++ x ∷ [] → n ≡ length ys
        → S ≡ listed_at (map f xs) U q j → T ≡ (S && not (is_some (own (f x) q) && nat_eq j n)) → T ≡ listed_at (map f ys) U q j
    fits_pop xs ys x U q j n S T is e fit dropped =
        let k : n ≡ length (map f ys) = e ∙ sym (map_length f ys) in
        dropped ∙ ap (λ b. b && not (is_some (own (f x) q) && nat_eq j n)) (popped xs ys x U q j n S is k fit)
        ∙ taken (has_at (map f ys) q j) (is_some (own (f x) q)) (nat_eq j n) (is_at U j) (nothing_there (map f ys) q j n k)

    -- a value was set in the global frame at place i
    pub put_at : (xs : List X) (i : ℕ) (x : X) (k q : List ℕ) (t : Tree) (j : ℕ) (p : GlobalAt (map f xs) i)
        → f x ≡ assigning (insert (assigned p.layer) k t) p.layer
        → has_at (map f (set xs i x)) q j ≡ (has_at (map f xs) q j || (bytes_eq k q && nat_eq j i))
    put_at xs i x k q t j p a =
        ap (λ ls. has_at ls q j) (set_put f xs i x k t p a) ∙ has_at-put p.before p.after p.layer k q t j p.global
        ∙ ap (λ n. has_at (p.before ++ p.layer ∷ p.after) q j || (bytes_eq k q && nat_eq j n)) (sym p.place)
        ∙ ap (λ ls. has_at ls q j || (bytes_eq k q && nat_eq j i)) (sym p.is)

  -- the places after a value was set in the listed frame at place i
  pub fits_put : (ls ms : List (Layer Reg)) (U : Option ℕ) (i : ℕ) (k q : List ℕ) (j : ℕ) (S T : Bool) → is_at U i ≡ false
      → has_at ms q j ≡ (has_at ls q j || (bytes_eq k q && nat_eq j i))
      → S ≡ listed_at ls U q j → T ≡ (S || (bytes_eq k q && nat_eq j i)) → T ≡ listed_at ms U q j
  fits_put ls ms U i k q j S T apart more fit noted = noted ∙ ap (λ b. b || (bytes_eq k q && nat_eq j i)) fit
      ∙ put_listed (has_at ls q j) (bytes_eq k q) (nat_eq j i) (is_at U j) (same_at U i j false apart)
      ∙ ap (λ b. b && not (is_at U j)) (sym more)

  -- the place that was noted for a name that was not given a value: it is removed unless the frame had the name before
  pub fits_kept : (ls ms : List (Layer Reg)) (U : Option ℕ) (i : ℕ) (k q : List ℕ) (j : ℕ) (S T V : Bool) → is_at U i ≡ false → ms ≡ ls
      → S ≡ listed_at ls U q j
      → T ≡ (S || (bytes_eq k q && nat_eq j i)) → V ≡ (T && not ((bytes_eq k q && is_none (own_at i ms k)) && nat_eq j i))
      → V ≡ listed_at ms U q j
  fits_kept ls ms U i k q j S T V apart same fit noted dropped =
      dropped
      ∙ ap (λ b. b && not ((bytes_eq k q && is_none (own_at i ms k)) && nat_eq j i))
      (noted ∙ ap (λ b. b || (bytes_eq k q && nat_eq j i)) fit)
      ∙ ap (λ xs. (listed_at ls U q j || (bytes_eq k q && nat_eq j i)) && not ((bytes_eq k q && is_none (own_at i xs k)) && nat_eq j i))
      same
      ∙ kept_or_dropped (own_at i ls k) (has_at ls q j) (is_at U j) (bytes_eq k q) (nat_eq j i) (λ b e. had ls k q i j b e)
      (λ e. same_at U i j false apart e)
      ∙ sym (ap (λ xs. listed_at xs U q j) same)
    where
      had : (xs : List (Layer Reg)) (k q : List ℕ) (i j : ℕ) → bytes_eq k q ≡ true → nat_eq j i ≡ true
          → has_at xs q j ≡ is_some (own_at i xs k)
      had xs k q i j b e = let m : j ≡ i = grind (arith, nat_tests) in ap (has_at xs q) m ∙ ap (λ p. has_at xs p i) (sym (same_text k q b))
