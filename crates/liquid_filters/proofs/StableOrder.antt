-- A list has one stable order: the result of a stable sort is that of inserting its entries one by one.
use Rattle.std.proofs.Common.{◌≡◌, ℕ, zero, suc, ◌<◌, ◌≤◌, Bool, true, false, not, ◌&&◌, cond, List, [], ◌∷◌, arith}
use Rattle.std.proofs.Common.{length, get_or, filter, map, refl, sym, ap, ◌∙◌, inl, inr, suc-le-suc, zero-le, add-one}
use Rattle.std.specs.List.Sorted.{ties, IsPermutation, IsSortedBy, IsStableBy}
use Rattle.std.specs.Cmp.{IsStrictWeakOrder}
use Rattle.std.proofs.lemmas.Bool.{cases_Bool, cond-true, cond-false, and_parts, not-true}
use Rattle.std.proofs.lemmas.List.Sorted.{sorted_far, IsPermutation-refl, IsPermutation-cons, IsPermutation-middle, IsPermutation-trans}
use Rattle.liquid_filters.specs.meaning.sort.Order.{put_in, in_order}

filter-kept : {X : Type 0} (p : X → Bool) (y : X) (ys : List X) → p y ≡ true → filter p (y ∷ ys) ≡ y ∷ filter p ys
filter-kept p y ys h = cond-true _ _ _ h

filter-dropped : {X : Type 0} (p : X → Bool) (y : X) (ys : List X) → p y ≡ false → filter p (y ∷ ys) ≡ filter p ys
filter-dropped p y ys h = cond-false _ _ _ h

module _ {X : Type 0} (lt : X → X → Bool) (o : IsStrictWeakOrder lt) where
  below_itself : (x : X) → lt x x ≡ false
  below_itself x = elim (cases_Bool (lt x x)) [ inl h ↦ o.one_way x x h | inr h ↦ h ]

  ties-parts : (x y : X) → ties lt x y ≡ true → (lt x y ≡ false) × (lt y x ≡ false)
  ties-parts x y h = let parts = and_parts (not (lt x y)) (not (lt y x)) h in (not-true _ parts.0, not-true _ parts.1)

  ties-from : (x y : X) → lt x y ≡ false → lt y x ≡ false → ties lt x y ≡ true
  ties-from x y h k = ap (λ b. not b && not (lt y x)) h ∙ ap not k

  -- no entry comes before y
  abbrev AreNotBefore : X → List X → Type 0
  AreNotBefore y [] = Unit {0}
  AreNotBefore y (z ∷ zs) = (lt z y ≡ false) × AreNotBefore y zs

  -- no entry comes before an earlier one
  abbrev Rises : List X → Type 0
  Rises [] = Unit {0}
  Rises (y ∷ ys) = AreNotBefore y ys × Rises ys

  AreNotBefore-chain : (y c : X) (zs : List X) → lt y c ≡ false → AreNotBefore y zs → AreNotBefore c zs
  AreNotBefore-chain y c [] h all = tt
  AreNotBefore-chain y c (z ∷ zs) h all = (o.chain z y c all.0 h, AreNotBefore-chain y c zs h all.1)

  AreNotBefore-at : (y : X) (ys : List X) → ((j : ℕ) → j < length ys → lt (get_or ys j y) y ≡ false) → AreNotBefore y ys
  AreNotBefore-at y [] h = tt
  AreNotBefore-at y (z ∷ zs) h = (h zero (suc-le-suc zero-le), AreNotBefore-at y zs (λ j below. h (suc j) (suc-le-suc below)))

  Rises-from_far : (ys : List X) → ((i j : ℕ) (d : X) → i ≤ j → j < length ys → lt (get_or ys j d) (get_or ys i d) ≡ false) → Rises ys
  Rises-from_far [] far = tt
  Rises-from_far (y ∷ ys) far = (
    AreNotBefore-at y ys (λ j below. far zero (suc j) y zero-le (suc-le-suc below)),
    Rises-from_far ys (λ i j d le below. far (suc i) (suc j) d (suc-le-suc le) (suc-le-suc below)),
  )

  AreNotBefore-put_in : (y c : X) (ds : List X) → lt c y ≡ false → AreNotBefore y ds → AreNotBefore y (put_in lt c ds)
  AreNotBefore-put_in y c [] h all = (h, tt)
  AreNotBefore-put_in y c (d ∷ ds) h all = elim (cases_Bool (lt d c)) [
    | inl first ↦ rw (cond-true (lt d c) (d ∷ put_in lt c ds) (c ∷ d ∷ ds) first) (all.0, AreNotBefore-put_in y c ds h all.1)
    | inr stays ↦ rw (cond-false (lt d c) (d ∷ put_in lt c ds) (c ∷ d ∷ ds) stays) (h, all)
  ]

  Rises-put_in : (c : X) (ds : List X) → Rises ds → Rises (put_in lt c ds)
  Rises-put_in c [] up = (tt, tt)
  Rises-put_in c (d ∷ ds) up = elim (cases_Bool (lt d c)) [
    | inl first ↦ rw (cond-true (lt d c) (d ∷ put_in lt c ds) (c ∷ d ∷ ds) first)
        (AreNotBefore-put_in d c ds (o.one_way d c first) up.0, Rises-put_in c ds up.1)
    | inr stays ↦ rw (cond-false (lt d c) (d ∷ put_in lt c ds) (c ∷ d ∷ ds) stays) ((stays, AreNotBefore-chain d c ds stays up.0), up)
  ]

  Rises-in_order : (cs : List X) → Rises (in_order lt cs)
  Rises-in_order [] = tt
  Rises-in_order (c ∷ cs) = Rises-put_in c (in_order lt cs) (Rises-in_order cs)

  filter-put_in : (x c : X) (ds : List X) → filter (ties lt x) (put_in lt c ds) ≡ filter (ties lt x) (c ∷ ds)
  filter-put_in x c [] = refl
  filter-put_in x c (d ∷ ds) =
      let p = ties lt x in
      elim (cases_Bool (lt d c)) [
        | inr stays ↦ ap (filter p) (cond-false _ _ _ stays)
        | inl first ↦
            ap (filter p) (cond-true _ _ _ first)
            ∙ elim (cases_Bool (p d)) [
              | inr without ↦
                  filter-dropped p d (put_in lt c ds) without ∙ filter-put_in x c ds
                  ∙ ap (λ l. cond (p c) (c ∷ l) l) (sym (filter-dropped p d ds without))
              | inl with ↦
                  elim (cases_Bool (p c)) [
                    | inl both ↦ let clash = sym first ∙ o.chain d x c (ties-parts x d with).1 (ties-parts x c both).0 in cc
                    | inr only ↦
                        filter-kept p d (put_in lt c ds) with ∙ ap (λ l. d ∷ l) (filter-put_in x c ds ∙ filter-dropped p c ds only)
                        ∙ sym (filter-dropped p c (d ∷ ds) only ∙ filter-kept p d ds with)
                  ]
            ]
      ]

  filter-in_order : (x : X) (cs : List X) → filter (ties lt x) (in_order lt cs) ≡ filter (ties lt x) cs
  filter-in_order x [] = refl
  filter-in_order x (c ∷ cs) =
      filter-put_in x c (in_order lt cs) ∙ ap (λ l. cond (ties lt x c) (c ∷ l) l) (filter-in_order x cs)

  -- an entry that a test finds does not come before y
  AreNotBefore-found : (y : X) (p : X → Bool) (zs : List X) (w : X) (ws : List X) → AreNotBefore y zs → filter p zs ≡ w ∷ ws
      → lt w y ≡ false
  AreNotBefore-found y p [] w ws all e = cc
  AreNotBefore-found y p (z ∷ zs) w ws all e = elim (cases_Bool (p z)) [
    | inl with ↦ let whole = sym (filter-kept p z zs with) ∙ e in let head : z ≡ w = cc in ap (λ v. lt v y) (sym head) ∙ all.0
    | inr without ↦ AreNotBefore-found y p zs w ws all.1 (sym (filter-dropped p z zs without) ∙ e)
  ]

  same_from_ties : (ys zs : List X) → Rises ys → Rises zs → ((x : X) → filter (ties lt x) ys ≡ filter (ties lt x) zs) → ys ≡ zs
  same_from_ties [] [] left right same = refl
  same_from_ties [] (z ∷ zs) left right same =
      let clash = same z ∙ filter-kept (ties lt z) z zs (ties-from z z (below_itself z) (below_itself z)) in cc
  same_from_ties (y ∷ ys) [] left right same =
      let clash = sym (same y) ∙ filter-kept (ties lt y) y ys (ties-from y y (below_itself y) (below_itself y)) in cc
  same_from_ties (y ∷ ys) (z ∷ zs) left right same =
      let at_y = filter-kept (ties lt y) y ys (ties-from y y (below_itself y) (below_itself y)) in
      let at_z = filter-kept (ties lt z) z zs (ties-from z z (below_itself z) (below_itself z)) in
      let up = AreNotBefore-found z (ties lt y) (z ∷ zs) y _ (below_itself z, right.0) (sym (same y) ∙ at_y) in
      let down = AreNotBefore-found y (ties lt z) (y ∷ ys) z _ (below_itself y, left.0) (same z ∙ at_z) in
      let heads = sym at_y ∙ same y ∙ filter-kept (ties lt y) z zs (ties-from y z up down) in
      let head : y ≡ z = cc in
      let tails : (x : X) → filter (ties lt x) ys ≡ filter (ties lt x) zs =
      λ x. elim (cases_Bool (ties lt x y)) [
        | inl with ↦
            let both =
            sym (filter-kept (ties lt x) y ys with) ∙ same x ∙ filter-kept (ties lt x) z zs (ap (ties lt x) (sym head) ∙ with) in cc
        | inr without ↦
            sym (filter-dropped (ties lt x) y ys without) ∙ same x ∙ filter-dropped (ties lt x) z zs (ap (ties lt x) (sym head) ∙ without)
      ] in
      ap (λ w. w ∷ ys) head ∙ ap (λ l. z ∷ l) (same_from_ties ys zs left.1 right.1 tails)

  adjacent : (ys : List X) → Rises ys → (k : ℕ) (d : X) → suc k < length ys → lt (get_or ys (suc k) d) (get_or ys k d) ≡ false
  adjacent [] up k d within = absurd (omega arith)
  adjacent (y ∷ []) up k d within = absurd (omega arith)
  adjacent (y ∷ z ∷ zs) up zero d within = up.0.0
  adjacent (y ∷ z ∷ zs) up (suc k) d within = adjacent (z ∷ zs) up.1 k d (omega arith)

  pub in_order-sorted : (xs : List X) → IsSortedBy lt (in_order lt xs)
  in_order-sorted xs k d low within = rw add-one (adjacent (in_order lt xs) (Rises-in_order xs) k d (omega arith))

  pub in_order-stable : (xs : List X) → IsStableBy lt xs (in_order lt xs)
  in_order-stable xs x = filter-in_order x xs

  put_in-moves : (x : X) (ys : List X) → IsPermutation (x ∷ ys) (put_in lt x ys)
  put_in-moves x [] = IsPermutation-refl (x ∷ [])
  put_in-moves x (y ∷ ys) = elim (cases_Bool (lt y x)) [
    | inl first ↦
        rw (cond-true (lt y x) (y ∷ put_in lt x ys) (x ∷ y ∷ ys) first)
        (IsPermutation-trans (x ∷ y ∷ ys) (y ∷ x ∷ ys) (y ∷ put_in lt x ys)
        (IsPermutation-middle (x ∷ []) y ys) (IsPermutation-cons y (x ∷ ys) (put_in lt x ys) (put_in-moves x ys)))
    | inr stays ↦ rw (cond-false (lt y x) (y ∷ put_in lt x ys) (x ∷ y ∷ ys) stays) (IsPermutation-refl (x ∷ y ∷ ys))
  ]

  pub in_order-moves : (xs : List X) → IsPermutation xs (in_order lt xs)
  in_order-moves [] = IsPermutation-refl []
  in_order-moves (x ∷ xs) =
      IsPermutation-trans (x ∷ xs) (x ∷ in_order lt xs) (put_in lt x (in_order lt xs))
      (IsPermutation-cons x xs (in_order lt xs) (in_order-moves xs)) (put_in-moves x (in_order lt xs))

  -- what is sorted and stable is the one order
  pub in_order-from_sort : (xs ys : List X) → IsSortedBy lt ys → IsStableBy lt xs ys → ys ≡ in_order lt xs
  in_order-from_sort xs ys sorted stable =
      same_from_ties ys (in_order lt xs) (Rises-from_far ys (sorted_far lt o ys sorted)) (Rises-in_order xs)
      (λ x. stable x ∙ sym (filter-in_order x xs))

-- entries that are seen through a function are put in order by what is seen
put_in-map : {X Y : Type 0} (f : X → Y) (lt : Y → Y → Bool) (x : X) (xs : List X)
    → map f (put_in (λ a b. lt (f a) (f b)) x xs) ≡ put_in lt (f x) (map f xs)
put_in-map f lt x [] = refl
put_in-map f lt x (y ∷ ys) = elim (cases_Bool (lt (f y) (f x))) [
  | inl first ↦ ap (map f) (cond-true _ _ _ first) ∙ ap (λ l. f y ∷ l) (put_in-map f lt x ys) ∙ sym (cond-true _ _ _ first)
  | inr stays ↦ ap (map f) (cond-false _ _ _ stays) ∙ sym (cond-false _ _ _ stays)
]

pub in_order-map : {X Y : Type 0} (f : X → Y) (lt : Y → Y → Bool) (xs : List X)
    → map f (in_order (λ a b. lt (f a) (f b)) xs) ≡ in_order lt (map f xs)
in_order-map f lt [] = refl
in_order-map f lt (x ∷ xs) = put_in-map f lt x (in_order (λ a b. lt (f a) (f b)) xs) ∙ ap (put_in lt (f x)) (in_order-map f lt xs)
