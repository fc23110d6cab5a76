-- More readers that are exact for their rules: repeated, optional, placed, and not ahead.
use Rattle.std.proofs.Common.{
  ◌≡◌,
  ℕ,
  zero,
  suc,
  ◌<◌,
  cond,
  List,
  [],
  ◌∷◌,
  ◌++◌,
  length,
  Option,
  Some,
  None,
  is_some,
  option_map,
  refl,
  sym,
  ap,
  ap₂,
  ◌∙◌,
  subst,
  arith,
  append_assoc,
}
use Rattle.std.proofs.lemmas.Option.{same_Some, none-some}
use Rattle.liquid_grammar.specs.meaning.Rules.{Rule, Repeated, ends, more, Not, Nothing, Placed, At, Optional}
use Rattle.liquid_grammar.specs.steps.Steps.{Reader}
use Rattle.liquid_grammar.specs.steps.TokenSteps.{not_ahead, nothing, optional, placed, at, repeat_turn, repeated_by, repeated}
use Rattle.liquid_grammar.proofs.Exact.{Exact, Cuts, Shrinks, option_map_some, none_begins, finds_none, exact-either, exact-seen}

not_ahead_sound : {A : Type 0} {f : Reader A} {R : Rule A} → Exact f R → (s rest : List ℕ) (a : Unit {0})
    → not_ahead f s ≡ Some (a, rest) → Not R s rest a
not_ahead_sound {A} {f = f} {R = R} F s rest a = go (f s) refl
  where
    go : (o : Option (A × List ℕ)) → f s ≡ o → let x : Unit {0} × List ℕ = (tt, s) in cond (is_some o) None (Some x) ≡ Some (a, rest)
        → Not R s rest a
    go (Some x) e h = absurd (none-some _ h)
    go None e h = record { stays = sym (ap (λ x. x.1) (same_Some _ _ h)); none = none_begins F s e }

not_ahead_complete : {A : Type 0} {f : Reader A} {R : Rule A} → Exact f R → (s rest : List ℕ) (a : Unit {0}) → Not R s rest a
    → not_ahead f s ≡ Some (a, rest)
not_ahead_complete {A} F s rest a m =
    let here : Unit {0} × List ℕ = (tt, s) in
    let w : List ℕ → Option (Unit {0} × List ℕ) = λ z. Some (tt, z) in
    ap (λ (o : Option (A × List ℕ)). cond (is_some o) None (Some here)) (finds_none F s m.none) ∙ ap w (sym m.stays)

pub exact-not_ahead : {A : Type 0} {f : Reader A} {R : Rule A} → Exact f R → Exact (not_ahead f) (Not R)
exact-not_ahead F = record { sound = not_ahead_sound F; complete = not_ahead_complete F; cuts = λ s rest a m. ([], sym m.stays) }

pub exact-nothing : {A : Type 0} (a : A) → Exact (nothing a) (Nothing a)
exact-nothing {A} a = record {
  sound = λ s rest b e. let q = same_Some _ _ e in record { stays = sym (ap (λ x. x.1) q); is = sym (ap (λ x. x.0) q) };
  complete = λ s rest b m. let w : A → List ℕ → Option (A × List ℕ) = λ x y. Some (x, y) in ap₂ w (sym m.is) (sym m.stays);
  cuts = λ s rest b m. ([], sym m.stays);
}

pub exact-optional : {A : Type 0} {f : Reader A} {R : Rule A} → Exact f R → Exact (optional f) (Optional R)
exact-optional F = exact-either (exact-seen Some F) (exact-nothing None)

at_sound : {A : Type 0} {f : Reader A} {R : Rule A} → Exact f R → (s rest : List ℕ) (a : Placed A) → at f s ≡ Some (a, rest) → At R s rest a
at_sound {A} {f = f} {R = R} F s rest a e =
    option_map_some (placed s) (f s) (a, rest) e (λ x fx q.
    let t : At R s x.1 (record { place = s; following = x.1; what = x.0 }) =
    record { begins = refl; ends = refl; match = F.sound s x.1 x.0 fx } in
    subst (λ (z : Placed A × List ℕ). At R s z.1 z.0) q t)

at_complete : {A : Type 0} {f : Reader A} {R : Rule A} → Exact f R → (s rest : List ℕ) (a : Placed A) → At R s rest a
    → at f s ≡ Some (a, rest)
at_complete {A} F s rest a m =
    let w : List ℕ → List ℕ → Option (Placed A × List ℕ) = λ x y. Some (record { place = x; following = y; what = a.what }, rest) in
    ap (option_map (placed s)) (F.complete s rest a.what m.match) ∙ ap₂ w (sym m.begins) (sym m.ends)

pub exact-at : {A : Type 0} {f : Reader A} {R : Rule A} → Exact f R → Exact (at f) (At R)
exact-at F = record { sound = at_sound F; complete = at_complete F; cuts = λ s rest a m. F.cuts s rest a.what m.match }

repeated_by_sound : {A : Type 0} {f : Reader A} {R : Rule A} → Exact f R → Shrinks R → (n : ℕ) (s rest : List ℕ) (as₁ : List A)
    → length s < n → repeated_by n f s ≡ Some (as₁, rest) → Repeated R s rest as₁
unfolding repeated_by
repeated_by_sound F less zero s rest found h e = absurd (omega arith)
repeated_by_sound {A} {f = f} {R = R} F less (suc n) s rest found h e = go (f s) refl e (λ t r b l q. repeated_by_sound F less n t r b l q)
  where
    go : (o : Option (A × List ℕ)) → f s ≡ o → repeat_turn o s (repeated_by n f) ≡ Some (found, rest)
        → ((t r : List ℕ) (b : List A) → length t < n → repeated_by n f t ≡ Some (b, r) → Repeated R t r b) → Repeated R s rest found
    go None none q rec =
        let stop : Repeated R s s [] = ends (none_begins F s none) in
        subst (λ (z : List A × List ℕ). Repeated R s z.1 z.0) (same_Some _ _ q) stop
    go (Some x) fx q rec =
        let m = F.sound s x.1 x.0 fx in
        let l = less s x.1 x.0 m in
        option_map_some (λ b. (x.0 ∷ b.0, b.1)) (repeated_by n f x.1) (found, rest) q (λ y gy w.
        let t : Repeated R s y.1 (x.0 ∷ y.0) = more m (rec x.1 y.1 y.0 (omega arith) gy) in
        subst (λ (z : List A × List ℕ). Repeated R s z.1 z.0) w t)

repeated_by_complete : {A : Type 0} {f : Reader A} {R : Rule A} → Exact f R → Shrinks R → (n : ℕ) (s rest : List ℕ) (found : List A)
    → Repeated R s rest found → length s < n → repeated_by n f s ≡ Some (found, rest)
unfolding repeated_by
repeated_by_complete F less zero s rest found m h = absurd (omega arith)
repeated_by_complete {f = f} F less (suc n) s rest found (ends none) h = ap (λ o. repeat_turn o s (repeated_by n f)) (finds_none F s none)
repeated_by_complete {A} {f = f} F less (suc n) s rest found (more {middle = t} {shape = a} {shapes = b} m ms) h =
    let l = less s t a m in
    let k : List A × List ℕ → List A × List ℕ = λ y. (a ∷ y.0, y.1) in
    ap (λ o. repeat_turn o s (repeated_by n f)) (F.complete s t a m) ∙ ap (option_map k)
    (repeated_by_complete F less n t rest b ms (omega arith))

repeated_cuts : {A : Type 0} {R : Rule A} → Cuts R → (s rest : List ℕ) (found : List A) → Repeated R s rest found → (front : List ℕ)
    × (s ≡ front ++ rest)
repeated_cuts cuts s rest found (ends none) = ([], refl)
repeated_cuts cuts s rest found (more {middle = t} {shape = a} {shapes = b} m ms) =
    let x = cuts s t a m in
    let y = repeated_cuts cuts t rest b ms in
    (x.0 ++ y.0, x.1 ∙ ap (λ z. x.0 ++ z) y.1 ∙ sym (append_assoc x.0 y.0 rest))

pub exact-repeated : {A : Type 0} {f : Reader A} {R : Rule A} → Exact f R → Shrinks R → Exact (repeated f) (Repeated R)
unfolding repeated
exact-repeated F less = record {
  sound = λ s rest found e. repeated_by_sound F less (suc (length s)) s rest found (omega arith) e;
  complete = λ s rest found m. repeated_by_complete F less (suc (length s)) s rest found m (omega arith);
  cuts = repeated_cuts F.cuts;
}

repeated_by_total : {A : Type 0} (f : Reader A) (n : ℕ) (s : List ℕ) → (x : List A × List ℕ) × (repeated_by n f s ≡ Some x)
unfolding repeated_by
repeated_by_total f zero s = (([], s), refl)
repeated_by_total {A} f (suc n) s = go (f s) (λ t. repeated_by_total f n t)
  where
    go : (o : Option (A × List ℕ)) → ((t : List ℕ) → (x : List A × List ℕ) × (repeated_by n f t ≡ Some x)) → (x : List A × List ℕ)
        × (repeat_turn o s (repeated_by n f) ≡ Some x)
    go None rec = (([], s), refl)
    go (Some a) rec = let y = rec a.1 in ((a.0 ∷ y.0.0, y.0.1), ap (option_map (λ b. (a.0 ∷ b.0, b.1))) y.1)

repeated_by_enough : {A : Type 0} {f : Reader A} {R : Rule A} → Exact f R → Shrinks R → (n : ℕ) (s : List ℕ) → length s < n
    → repeated_by n f s ≡ repeated f s
unfolding repeated
repeated_by_enough {f = f} F less n s h =
    let x = repeated_by_total f n s in
    x.1 ∙ sym (repeated_by_complete F less (suc (length s)) s x.0.1 x.0.0 (repeated_by_sound F less n s x.0.1 x.0.0 h x.1) (omega arith))

-- a repetition is one match and a repetition, or ends where none begins
pub repeated_more : {A : Type 0} {f : Reader A} {R : Rule A} → Exact f R → Shrinks R → (s : List ℕ) (a : A × List ℕ) → f s ≡ Some a
    → repeated f s ≡ option_map (λ b. (a.0 ∷ b.0, b.1)) (repeated f a.1)
unfolding repeated repeated_by
repeated_more {f = f} F less s a e =
    let l = less s a.1 a.0 (F.sound s a.1 a.0 e) in
    ap (λ o. repeat_turn o s (repeated_by (length s) f)) e ∙ ap (option_map (λ b. (a.0 ∷ b.0, b.1)))
    (repeated_by_enough F less (length s) a.1 l)

pub repeated_end : {A : Type 0} (f : Reader A) (s : List ℕ) → f s ≡ None → repeated f s ≡ Some ([], s)
unfolding repeated repeated_by
repeated_end f s e = ap (λ o. repeat_turn o s (repeated_by (length s) f)) e

-- a repetition finds something everywhere
pub repeated_total : {A : Type 0} (f : Reader A) (s : List ℕ) → (x : List A × List ℕ) × (repeated f s ≡ Some x)
unfolding repeated
repeated_total f s = repeated_by_total f (suc (length s)) s
