-- Each rule leaves a text as its rest, and the spans of its shape are slices of the text.
use Rattle.std.proofs.Common.{
  ◌≡◌,
  ℕ,
  ◌<◌,
  Bool,
  true,
  ◌==◌,
  List,
  [],
  ◌∷◌,
  ◌++◌,
  Option,
  Some,
  None,
  IsUtf8,
  refl,
  sym,
  ap,
  ◌∙◌,
  subst,
  arith,
  append_assoc,
  length-append,
  eqb-true,
}
use Rattle.std.proofs.lemmas.List.{append-nil}
use Rattle.std.proofs.lemmas.Str.{IsCharBoundary-after_ascii, IsCharBoundary-at_seam, IsUtf8-drop}
use Rattle.std.specs.Prelude.{⊤}
use Rattle.std.specs.Str.{IsCharBoundary}
use Rattle.liquid_grammar.specs.meaning.Rules.{
  Rule,
  One,
  Then,
  Else,
  here,
  instead,
  Repeated,
  ends,
  more,
  Seen,
  Where,
  Text,
  Ahead,
  Not,
  Nothing,
  Placed,
  At,
  Byte,
  Optional,
  ◌▷◌,
  ◌◁◌,
}
use Rattle.liquid_grammar.specs.laws.Spans.{Span, IsSlice, AreSlices, spans_of_all}

-- the rest is an end of the text, and is a text itself
pub record Reaches (s rest : List ℕ) : Type 0 where
  pub front : List ℕ
  pub is : s ≡ front ++ rest
  pub text : IsUtf8 rest

pub reach_self : (s : List ℕ) → IsUtf8 s → Reaches s s
reach_self s u = record { front = []; is = refl; text = u }

pub reach_on : (s m rest : List ℕ) → Reaches s m → Reaches m rest → Reaches s rest
reach_on s m rest a b = record {
  front = a.front ++ b.front;
  is = a.is ∙ ap (λ x. a.front ++ x) b.is ∙ sym (append_assoc a.front b.front rest);
  text = b.text;
}

-- what follows an ASCII byte is text
pub after_ascii : (b : ℕ) (rest : List ℕ) → b < 128 → IsUtf8 (b ∷ rest) → IsUtf8 rest
after_ascii b rest low u = IsUtf8-drop (b ∷ rest) 1 u (IsCharBoundary-after_ascii (b ∷ rest) 0 u (omega arith) low)

-- a place and a place after it make a slice
pub slice_of : (s place following : List ℕ) → Reaches s place → Reaches place following → IsSlice s (place, following)
slice_of s place following a b =
    let joined = a.is ∙ ap (λ x. a.front ++ x) b.is in
    let whole = joined ∙ sym (append_assoc a.front b.front following) in
    record {
      before = a.front;
      taken = b.front;
      joined = whole;
      place = b.is;
      begins = IsCharBoundary-at_seam s a.front place a.is a.text;
      ends = subst (λ n. IsCharBoundary s n) (length-append a.front b.front)
          (IsCharBoundary-at_seam s (a.front ++ b.front) following whole b.text);
    }

-- the place is an end of the text, and the place after it an end of that
abbrev pub Inside : List ℕ → Span → Type 0
Inside s span = Reaches s span.0 × Reaches span.0 span.1

abbrev pub AllInside : List ℕ → List Span → Type 0
AllInside s [] = ⊤
AllInside s (span ∷ spans) = Inside s span × AllInside s spans

pub all_slices : (s : List ℕ) (spans : List Span) → AllInside s spans → AreSlices s spans
all_slices s [] i = tt
all_slices s (span ∷ spans) i = (slice_of s span.0 span.1 i.0.0 i.0.1, all_slices s spans i.1)

lift_all : (s m : List ℕ) (spans : List Span) → Reaches s m → AllInside m spans → AllInside s spans
lift_all s m [] r i = tt
lift_all s m (span ∷ spans) r i = ((reach_on s m span.0 r i.0.0, i.0.1), lift_all s m spans r i.1)

join_all : (s : List ℕ) (xs ys : List Span) → AllInside s xs → AllInside s ys → AllInside s (xs ++ ys)
join_all s [] ys i j = j
join_all s (x ∷ xs) ys i j = (i.0, join_all s xs ys i.1 j)

-- a match of R leaves text, and the spans of its shape are inside the text
pub record Spans {A : Type 0} (R : Rule A) (f : A → List Span) : Type 0 where
  pub of : (s rest : List ℕ) (a : A) → R s rest a → IsUtf8 s → Reaches s rest × AllInside s (f a)

abbrev pub no_spans : {A : Type 0} → A → List Span
no_spans a = []

pub spans-one : (p : ℕ → Bool) → ((b : ℕ) → p b ≡ true → b < 128) → Spans (One p) no_spans
spans-one p low = record {
  of = λ s rest b m u. (record { front = b ∷ []; is = m.front; text = after_ascii b rest (low b m.passes) (subst IsUtf8 m.front u) }, tt);
}

pub spans-byte : (b : ℕ) → b < 128 → Spans (Byte b) no_spans
spans-byte b low = spans-one (λ c. c == b) (λ c e. subst (λ (x : ℕ). x < 128) (sym (eqb-true c b e)) low)

pub spans-then : {A B : Type 0} {R : Rule A} {S : Rule B} {f : A → List Span} {g : B → List Span} → Spans R f → Spans S g
    → Spans (Then R S) (λ p. f p.0 ++ g p.1)
spans-then {f = f} {g = g} R S = record {
  of = λ s rest a m u.
      let r = R.of s m.middle a.0 m.before u in
      let q = S.of m.middle rest a.1 m.after r.0.text in
      (reach_on s m.middle rest r.0 q.0, join_all s (f a.0) (g a.1) r.1 (lift_all s m.middle (g a.1) r.0 q.1));
}

else_of : {A : Type 0} {R S : Rule A} {f : A → List Span} → Spans R f → Spans S f → (s rest : List ℕ) (a : A) → Else R S s rest a
    → IsUtf8 s → Reaches s rest × AllInside s (f a)
else_of R S s rest a (here m) u = R.of s rest a m u
else_of R S s rest a (instead none m) u = S.of s rest a m u

pub spans-else : {A : Type 0} {R S : Rule A} {f : A → List Span} → Spans R f → Spans S f → Spans (Else R S) f
spans-else R S = record { of = else_of R S }

repeated_of : {A : Type 0} {R : Rule A} {f : A → List Span} → Spans R f → (s rest : List ℕ) (a : List A) → Repeated R s rest a → IsUtf8 s
    → Reaches s rest × AllInside s (spans_of_all f a)
repeated_of {f = f} R s rest a (ends none) u = (reach_self s u, tt)
repeated_of {f = f} R s rest a (more {middle = middle} {shape = x} {shapes = xs} m onward) u =
    let r = R.of s middle x m u in
    let q = repeated_of R middle rest xs onward r.0.text in
    (reach_on s middle rest r.0 q.0, join_all s (f x) (spans_of_all f xs) r.1 (lift_all s middle (spans_of_all f xs) r.0 q.1))

pub spans-repeated : {A : Type 0} {R : Rule A} {f : A → List Span} → Spans R f → Spans (Repeated R) (spans_of_all f)
spans-repeated R = record { of = repeated_of R }

-- a repetition of what has no spans
pub spans-run : {A : Type 0} {R : Rule A} → Spans R no_spans → Spans (Repeated R) no_spans
spans-run R = record { of = λ s rest a m u. ((repeated_of R s rest a m u).0, tt) }

-- with another shape that has the same spans
pub spans-seen : {A B : Type 0} {R : Rule A} {f : A → List Span} {g : B → List Span} (h : A → B) → ((a : A) → f a ≡ g (h a)) → Spans R f
    → Spans (Seen h R) g
spans-seen {g = g} h same R = record {
  of = λ s rest b m u.
      let r = R.of s rest m.from m.match u in
      (r.0, subst (AllInside s) (same m.from ∙ ap g (sym m.is)) r.1);
}

pub spans-where : {A : Type 0} {R : Rule A} {f : A → List Span} (p : A → Bool) → Spans R f → Spans (Where p R) f
spans-where p R = record { of = λ s rest a m u. R.of s rest a m.match u }

pub spans-text : {A : Type 0} {R : Rule A} {f : A → List Span} → Spans R f → Spans (Text R) no_spans
spans-text R = record { of = λ s rest a m u. ((R.of s rest m.shape m.match u).0, tt) }

pub spans-not : {A : Type 0} {R : Rule A} → Spans (Not R) no_spans
spans-not = record { of = λ s rest a m u. (subst (Reaches s) (sym m.stays) (reach_self s u), tt) }

pub spans-ahead : {A : Type 0} {R : Rule A} → Spans (Ahead R) no_spans
spans-ahead = record { of = λ s rest a m u. (subst (Reaches s) (sym m.stays) (reach_self s u), tt) }

pub spans-nothing : {A : Type 0} {f : A → List Span} (a : A) → [] ≡ f a → Spans (Nothing a) f
spans-nothing {f = f} a same = record {
  of =
      λ s rest b m u. (subst (Reaches s) (sym m.stays) (reach_self s u), subst (AllInside s) (same ∙ ap f (sym m.is)) tt);
}

abbrev pub placed_spans : {A : Type 0} → (A → List Span) → Placed A → List Span
placed_spans f p = (p.place, p.following) ∷ f p.what

pub spans-at : {A : Type 0} {R : Rule A} {f : A → List Span} → Spans R f → Spans (At R) (placed_spans f)
spans-at R = record {
  of = λ s rest p m u.
      let r = R.of s rest p.what m.match u in
      let place = subst (Reaches s) (sym m.begins) (reach_self s u) in
      let following = subst (λ x. Reaches x p.following) (sym m.begins) (subst (Reaches s) (sym m.ends) r.0) in
      (r.0, ((place, following), r.1));
}

-- two rules, one of whose shapes is kept, where the other has no spans
pub spans-right : {A B : Type 0} {R : Rule A} {S : Rule B} {g : B → List Span} → Spans R no_spans → Spans S g → Spans (R ▷ S) g
spans-right R S = spans-seen (λ p. p.1) (λ a. refl) (spans-then R S)

pub spans-left : {A B : Type 0} {R : Rule A} {S : Rule B} {f : A → List Span} → Spans R f → Spans S no_spans → Spans (R ◁ S) f
spans-left {f = f} R S = spans-seen (λ p. p.0) (λ a. append-nil (f a.0)) (spans-then R S)

pub spans-optional : {A : Type 0} {R : Rule A} {f : A → List Span} (g : Option A → List Span) → ((a : A) → f a ≡ g (Some a))
    → [] ≡ g None → Spans R f → Spans (Optional R) g
spans-optional g some none R = spans-else (spans-seen Some some R) (spans-nothing None none)

-- the spans of a match in a text are slices of it
pub slices : {A : Type 0} {R : Rule A} {f : A → List Span} → Spans R f → (s rest : List ℕ) (a : A) → IsUtf8 s → R s rest a
    → AreSlices s (f a)
slices {f = f} R s rest a u m = all_slices s (f a) (R.of s rest a m u).1
