-- A reader is exact for a rule if it finds just what the rule relates.
use Rattle.std.proofs.Common.{
  ◌≡◌,
  ℕ,
  ◌-◌,
  ◌<◌,
  ◌≤◌,
  Bool,
  true,
  false,
  cond,
  ◌==◌,
  List,
  [],
  ◌∷◌,
  ◌++◌,
  length,
  take,
  Option,
  Some,
  None,
  is_some,
  option_map,
  option_and_then,
  refl,
  sym,
  ap,
  ◌∙◌,
  subst,
  arith,
  append_assoc,
  take_at,
  length-append,
}
use Rattle.std.proofs.lemmas.Option.{same_Some, none-some, option_and_then_some, cond_some}
use Rattle.std.specs.Option.{option_or}
use Rattle.liquid_grammar.specs.meaning.Rules.{Rule, Begins, One, Then, Else, here, instead, Seen, Where, Text, Ahead, Byte, ◌▷◌, ◌◁◌}
use Rattle.liquid_grammar.specs.steps.Steps.{Reader, one, byte, both, either, seen, only, text, ahead, right, left}

-- what R takes is the beginning of the text
abbrev pub Cuts : {A : Type 0} → Rule A → Type 0
Cuts {A} R = (s rest : List ℕ) (a : A) → R s rest a → (front : List ℕ) × (s ≡ front ++ rest)

pub record Exact {A : Type 0} (f : Reader A) (R : Rule A) : Type 0 where
  pub sound : (s rest : List ℕ) (a : A) → f s ≡ Some (a, rest) → R s rest a
  pub complete : (s rest : List ℕ) (a : A) → R s rest a → f s ≡ Some (a, rest)
  pub cuts : Cuts R

-- there is a value, or there is none
pub option_cases : {A B : Type 0} (o : Option A) → ((x : A) → o ≡ Some x → B) → (o ≡ None → B) → B
option_cases (Some x) f g = f x refl
option_cases None f g = g refl

pub option_map_some : {A B P : Type 0} (f : A → B) (o : Option A) (y : B) → option_map f o ≡ Some y
    → ((x : A) → o ≡ Some x → f x ≡ y → P) → P
option_map_some f (Some x) y e k = k x refl (same_Some (f x) y e)
option_map_some f None y e k = absurd (none-some y e)

-- a rule that an exact reader reads has one match at most
pub same_match : {A : Type 0} {f : Reader A} {R : Rule A} → Exact f R → (s r₁ r₂ : List ℕ) (a₁ a₂ : A) → R s r₁ a₁ → R s r₂ a₂
    → ◌≡◌ {A = A × List ℕ} (a₁, r₁) (a₂, r₂)
same_match {f = f} ex s r₁ r₂ a₁ a₂ m₁ m₂ = same_Some _ _ (sym (ex.complete s r₁ a₁ m₁) ∙ ex.complete s r₂ a₂ m₂)

-- no match begins where the reader finds none
pub none_begins : {A : Type 0} {f : Reader A} {R : Rule A} → Exact f R → (s : List ℕ) → f s ≡ None → ¬ (Begins R s)
none_begins ex s e b = none-some _ (sym e ∙ ex.complete s b.rest b.shape b.match)

pub finds_none : {A : Type 0} {f : Reader A} {R : Rule A} → Exact f R → (s : List ℕ) → ¬ (Begins R s) → f s ≡ None
finds_none {f = f} ex s h =
    option_cases (f s) (λ x e. absurd (h (record { rest = x.1; shape = x.0; match = ex.sound s x.1 x.0 e }))) (λ e. e)

pub begins_found : {A : Type 0} {f : Reader A} {R : Rule A} → Exact f R → (s : List ℕ) → is_some (f s) ≡ true → Begins R s
begins_found {A} {f = f} {R = R} ex s h = go (f s) refl h
  where
    go : (o : Option (A × List ℕ)) → f s ≡ o → is_some o ≡ true → Begins R s
    go (Some x) e t = record { rest = x.1; shape = x.0; match = ex.sound s x.1 x.0 e }
    go None e t = cc

pub found_begins : {A : Type 0} {f : Reader A} {R : Rule A} → Exact f R → (s : List ℕ) → Begins R s → is_some (f s) ≡ true
found_begins ex s b = ap is_some (ex.complete s b.rest b.shape b.match)

one_sound : (p : ℕ → Bool) (s rest : List ℕ) (a : ℕ) → one p s ≡ Some (a, rest) → One p s rest a
one_sound p [] rest a e = absurd (none-some _ e)
one_sound p (b ∷ s) rest a e = go (p b) refl e
  where
    go : (t : Bool) → p b ≡ t → cond {A = Option (ℕ × List ℕ)} t (Some (b, s)) None ≡ Some (a, rest) → One p (b ∷ s) rest a
    go true h e =
        let q = same_Some _ _ e in record { front = ap (λ x. x.0 ∷ x.1) q; passes = subst (λ x. p x ≡ true) (ap (λ x. x.0) q) h }
    go false h e = absurd (none-some _ e)

one_complete : (p : ℕ → Bool) (s rest : List ℕ) (a : ℕ) → One p s rest a → one p s ≡ Some (a, rest)
one_complete p s rest a m = ap (one p) m.front ∙ ap (λ t. cond {A = Option (ℕ × List ℕ)} t (Some (a, rest)) None) m.passes

pub exact-one : (p : ℕ → Bool) → Exact (one p) (One p)
exact-one p = record { sound = one_sound p; complete = one_complete p; cuts = λ s rest a m. (a ∷ [], m.front) }

pub exact-byte : (b : ℕ) → Exact (byte b) (Byte b)
exact-byte b = exact-one (λ c. c == b)

both_sound : {A B : Type 0} {f : Reader A} {g : Reader B} {R : Rule A} {S : Rule B} → Exact f R → Exact g S
    → (s rest : List ℕ) (a : A × B) → both f g s ≡ Some (a, rest) → Then R S s rest a
both_sound {A} {B} {f = f} {g = g} {R = R} {S = S} F G s rest a e =
    option_and_then_some (λ x. option_map (λ y. ((x.0, y.0), y.1)) (g x.1)) (f s) (a, rest) e (λ x fx gx.
    option_map_some (λ y. ((x.0, y.0), y.1)) (g x.1) (a, rest) gx (λ y gy q.
    let m : S x.1 y.1 y.0 = G.sound x.1 y.1 y.0 gy in
    let t : Then R S s y.1 (x.0, y.0) = record { middle = x.1; before = F.sound s x.1 x.0 fx; after = m } in
    subst (λ (z : (A × B) × List ℕ). Then R S s z.1 z.0) q t))

both_complete : {A B : Type 0} {f : Reader A} {g : Reader B} {R : Rule A} {S : Rule B} → Exact f R → Exact g S
    → (s rest : List ℕ) (a : A × B) → Then R S s rest a → both f g s ≡ Some (a, rest)
both_complete {A} {B} {f = f} {g = g} F G s rest a m =
    let k : A × List ℕ → Option ((A × B) × List ℕ) = λ x. option_map (λ y. ((x.0, y.0), y.1)) (g x.1) in
    ap (option_and_then k) (F.complete s m.middle a.0 m.before) ∙ ap (option_map (λ y. ((a.0, y.0), y.1)))
    (G.complete m.middle rest a.1 m.after)

both_cuts : {A B : Type 0} {R : Rule A} {S : Rule B} → Cuts R → Cuts S → Cuts (Then R S)
both_cuts F G s rest a m =
    let x = F s m.middle a.0 m.before in
    let y = G m.middle rest a.1 m.after in
    (x.0 ++ y.0, x.1 ∙ ap (λ t. x.0 ++ t) y.1 ∙ sym (append_assoc x.0 y.0 rest))

pub exact-both : {A B : Type 0} {f : Reader A} {g : Reader B} {R : Rule A} {S : Rule B} → Exact f R → Exact g S
    → Exact (both f g) (Then R S)
exact-both F G = record { sound = both_sound F G; complete = both_complete F G; cuts = both_cuts F.cuts G.cuts }

either_sound : {A : Type 0} {f g : Reader A} {R S : Rule A} → Exact f R → Exact g S → (s rest : List ℕ) (a : A)
    → either f g s ≡ Some (a, rest) → Else R S s rest a
either_sound {A} {f = f} {g = g} {R = R} {S = S} F G s rest a = go (f s) refl
  where
    go : (o : Option (A × List ℕ)) → f s ≡ o → option_or o (g s) ≡ Some (a, rest) → Else R S s rest a
    go (Some x) h e = here (F.sound s rest a (h ∙ e))
    go None h e = instead (none_begins F s h) (G.sound s rest a e)

either_complete : {A : Type 0} {f g : Reader A} {R S : Rule A} → Exact f R → Exact g S → (s rest : List ℕ) (a : A) → Else R S s rest a
    → either f g s ≡ Some (a, rest)
either_complete {f = f} {g = g} F G s rest a (here m) = ap (λ o. option_or o (g s)) (F.complete s rest a m)
either_complete {f = f} {g = g} F G s rest a (instead h m) = ap (λ o. option_or o (g s)) (finds_none F s h) ∙ G.complete s rest a m

either_cuts : {A : Type 0} {R S : Rule A} → Cuts R → Cuts S → Cuts (Else R S)
either_cuts F G s rest a (here m) = F s rest a m
either_cuts F G s rest a (instead h m) = G s rest a m

pub exact-either : {A : Type 0} {f g : Reader A} {R S : Rule A} → Exact f R → Exact g S → Exact (either f g) (Else R S)
exact-either F G = record { sound = either_sound F G; complete = either_complete F G; cuts = either_cuts F.cuts G.cuts }

seen_sound : {A B : Type 0} (h : A → B) {f : Reader A} {R : Rule A} → Exact f R → (s rest : List ℕ) (b : B) → seen h f s ≡ Some (b, rest)
    → Seen h R s rest b
seen_sound {A} {B} h {f = f} {R = R} F s rest b e =
    option_map_some (λ x. (h x.0, x.1)) (f s) (b, rest) e (λ x fx q.
    let t : Seen h R s x.1 (h x.0) = record { from = x.0; match = F.sound s x.1 x.0 fx; is = refl } in
    subst (λ (z : B × List ℕ). Seen h R s z.1 z.0) q t)

seen_complete : {A B : Type 0} (h : A → B) {f : Reader A} {R : Rule A} → Exact f R → (s rest : List ℕ) (b : B) → Seen h R s rest b
    → seen h f s ≡ Some (b, rest)
seen_complete {A} {B} h F s rest b m =
    let k : A × List ℕ → B × List ℕ = λ x. (h x.0, x.1) in
    let w : B → Option (B × List ℕ) = λ z. Some (z, rest) in
    ap (option_map k) (F.complete s rest m.from m.match) ∙ ap w (sym m.is)

pub exact-seen : {A B : Type 0} (h : A → B) {f : Reader A} {R : Rule A} → Exact f R → Exact (seen h f) (Seen h R)
exact-seen h F = record { sound = seen_sound h F; complete = seen_complete h F; cuts = λ s rest b m. F.cuts s rest m.from m.match }

pub exact-right : {A B : Type 0} {f : Reader A} {g : Reader B} {R : Rule A} {S : Rule B} → Exact f R → Exact g S → Exact (right f g) (R ▷ S)
exact-right F G = exact-seen (λ p. p.1) (exact-both F G)

pub exact-left : {A B : Type 0} {f : Reader A} {g : Reader B} {R : Rule A} {S : Rule B} → Exact f R → Exact g S → Exact (left f g) (R ◁ S)
exact-left F G = exact-seen (λ p. p.0) (exact-both F G)

only_sound : {A : Type 0} (p : A → Bool) {f : Reader A} {R : Rule A} → Exact f R → (s rest : List ℕ) (a : A)
    → only p f s ≡ Some (a, rest) → Where p R s rest a
only_sound {A} p {f = f} {R = R} F s rest a e =
    option_and_then_some (λ x. cond (p x.0) (Some x) None) (f s) (a, rest) e (λ x fx gx.
    let r = cond_some (p x.0) x (a, rest) gx in
    let t : Where p R s x.1 x.0 = record { match = F.sound s x.1 x.0 fx; passes = r.0 } in
    subst (λ (z : A × List ℕ). Where p R s z.1 z.0) r.1 t)

only_complete : {A : Type 0} (p : A → Bool) {f : Reader A} {R : Rule A} → Exact f R → (s rest : List ℕ) (a : A) → Where p R s rest a
    → only p f s ≡ Some (a, rest)
only_complete {A} p F s rest a m =
    let k : A × List ℕ → Option (A × List ℕ) = λ x. cond (p x.0) (Some x) None in
    let x : A × List ℕ = (a, rest) in
    ap (option_and_then k) (F.complete s rest a m.match) ∙ ap (λ t. cond t (Some x) None) m.passes

pub exact-only : {A : Type 0} (p : A → Bool) {f : Reader A} {R : Rule A} → Exact f R → Exact (only p f) (Where p R)
exact-only p F = record { sound = only_sound p F; complete = only_complete p F; cuts = λ s rest a m. F.cuts s rest a m.match }

-- the front of a text is the part before its end
pub front_of : (s front rest : List ℕ) → s ≡ front ++ rest → take (length s - length rest) s ≡ front
front_of s front rest e =
    let n : length front ≡ length s - length rest = omega (arith, ap length e, length-append front rest) in
    ap (take (length s - length rest)) e ∙ take_at front rest (length s - length rest) n

text_sound : {A : Type 0} {f : Reader A} {R : Rule A} → Exact f R → (s rest t : List ℕ) → text f s ≡ Some (t, rest) → Text R s rest t
text_sound {A} {f = f} {R = R} F s rest t e =
    option_map_some (λ x. (take (length s - length x.1) s, x.1)) (f s) (t, rest) e (λ x fx q.
    let m = F.sound s x.1 x.0 fx in
    let c = F.cuts s x.1 x.0 m in
    let w : Text R s x.1 (take (length s - length x.1) s) =
    record { shape = x.0; match = m; front = c.1 ∙ ap (λ z. z ++ x.1) (sym (front_of s c.0 x.1 c.1)) } in
    subst (λ (z : List ℕ × List ℕ). Text R s z.1 z.0) q w)

text_complete : {A : Type 0} {f : Reader A} {R : Rule A} → Exact f R → (s rest t : List ℕ) → Text R s rest t → text f s ≡ Some (t, rest)
text_complete {A} F s rest t m =
    let k : A × List ℕ → List ℕ × List ℕ = λ x. (take (length s - length x.1) s, x.1) in
    let w : List ℕ → Option (List ℕ × List ℕ) = λ z. Some (z, rest) in
    ap (option_map k) (F.complete s rest m.shape m.match) ∙ ap w (front_of s t rest m.front)

pub exact-text : {A : Type 0} {f : Reader A} {R : Rule A} → Exact f R → Exact (text f) (Text R)
exact-text F = record { sound = text_sound F; complete = text_complete F; cuts = λ s rest t m. (t, m.front) }

ahead_sound : {A : Type 0} {f : Reader A} {R : Rule A} → Exact f R → (s rest : List ℕ) (a : Unit {0}) → ahead f s ≡ Some (a, rest)
    → Ahead R s rest a
ahead_sound {f = f} F s rest a e =
    let here : Unit {0} × List ℕ = (tt, s) in
    let r = cond_some (is_some (f s)) here (a, rest) e in
    record { stays = sym (ap (λ x. x.1) r.1); begins = begins_found F s r.0 }

ahead_complete : {A : Type 0} {f : Reader A} {R : Rule A} → Exact f R → (s rest : List ℕ) (a : Unit {0}) → Ahead R s rest a
    → ahead f s ≡ Some (a, rest)
ahead_complete F s rest a m =
    let here : Unit {0} × List ℕ = (tt, s) in
    let w : List ℕ → Option (Unit {0} × List ℕ) = λ z. Some (tt, z) in
    ap (λ t. cond t (Some here) None) (found_begins F s m.begins) ∙ ap w (sym m.stays)

pub exact-ahead : {A : Type 0} {f : Reader A} {R : Rule A} → Exact f R → Exact (ahead f) (Ahead R)
exact-ahead F = record { sound = ahead_sound F; complete = ahead_complete F; cuts = λ s rest a m. ([], sym m.stays) }

-- rest is an end of the text
abbrev pub IsEnd : List ℕ → List ℕ → Type 0
IsEnd s rest = (front : List ℕ) × (s ≡ front ++ rest)

-- what an exact reader leaves is an end of the text
pub leaves_end : {A : Type 0} {f : Reader A} {R : Rule A} → Exact f R → (s rest : List ℕ) → Some rest ≡ option_map (λ p. p.1) (f s)
    → IsEnd s rest
leaves_end {f = f} F s rest e =
    option_map_some (λ p. p.1) (f s) rest (sym e) (λ x fx q.
    let cut = F.cuts s x.1 x.0 (F.sound s x.1 x.0 fx) in
    (cut.0, cut.1 ∙ ap (λ y. cut.0 ++ y) q))

pub found_end : {A : Type 0} {f : Reader A} {R : Rule A} → Exact f R → (s rest : List ℕ) (a : A) → Some (a, rest) ≡ f s → IsEnd s rest
found_end F s rest a e = F.cuts s rest a (F.sound s rest a (sym e))

-- an end of an end is an end
pub end_join : (s middle rest : List ℕ) → IsEnd s middle → IsEnd middle rest → IsEnd s rest
end_join s middle rest a b = (a.0 ++ b.0, a.1 ∙ ap (λ y. a.0 ++ y) b.1 ∙ sym (append_assoc a.0 b.0 rest))

pub before_end : (s rest : List ℕ) → IsEnd s rest → s ≡ take (length s - length rest) s ++ rest
before_end s rest a = a.1 ∙ ap (λ x. x ++ rest) (sym (front_of s a.0 rest a.1))

-- a match takes something
abbrev pub Shrinks : {A : Type 0} → Rule A → Type 0
Shrinks {A} R = (s rest : List ℕ) (a : A) → R s rest a → length rest < length s

pub cuts_le : {A : Type 0} {R : Rule A} → Cuts R → (s rest : List ℕ) (a : A) → R s rest a → length rest ≤ length s
cuts_le cuts s rest a m = let cut = cuts s rest a m in omega (arith, ap length cut.1, length-append cut.0 rest)

pub shrinks-one : (p : ℕ → Bool) → Shrinks (One p)
shrinks-one p s rest b m = omega (arith, ap length m.front)

pub shrinks-first : {A B : Type 0} {R : Rule A} {S : Rule B} → Shrinks R → Cuts S → Shrinks (Then R S)
shrinks-first F G s rest a m =
    let x = F s m.middle a.0 m.before in
    let y = cuts_le G m.middle rest a.1 m.after in
    omega arith

pub shrinks-second : {A B : Type 0} {R : Rule A} {S : Rule B} → Cuts R → Shrinks S → Shrinks (Then R S)
shrinks-second F G s rest a m =
    let x = cuts_le F s m.middle a.0 m.before in
    let y = G m.middle rest a.1 m.after in
    omega arith

pub shrinks-seen : {A B : Type 0} (h : A → B) {R : Rule A} → Shrinks R → Shrinks (Seen h R)
shrinks-seen h F s rest b m = F s rest m.from m.match

pub shrinks-else : {A : Type 0} {R S : Rule A} → Shrinks R → Shrinks S → Shrinks (Else R S)
shrinks-else F G s rest a (here m) = F s rest a m
shrinks-else F G s rest a (instead h m) = G s rest a m

pub shrinks-text : {A : Type 0} {R : Rule A} → Shrinks R → Shrinks (Text R)
shrinks-text F s rest t m = F s rest m.shape m.match
