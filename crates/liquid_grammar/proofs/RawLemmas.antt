-- Where an opener begins, in one pass over a text.
use Rattle.std.proofs.Common.{
  ◌≡◌,
  ℕ,
  zero,
  suc,
  ◌-◌,
  ◌+◌,
  ◌<◌,
  ◌≤◌,
  Bool,
  true,
  false,
  cond,
  ◌&&◌,
  ◌||◌,
  ◌==◌,
  List,
  [],
  ◌∷◌,
  length,
  get_or,
  take,
  drop,
  slice_index,
  Option,
  Some,
  None,
  is_some,
  option_map,
  option_and_then,
  refl,
  sym,
  ap,
  ap₂,
  ◌∙◌,
  inl,
  inr,
  subst,
  arith,
  add-zero,
  get_or-drop,
  drop_of_length-le,
  eqb-true,
  eq-eqb,
  ne_eqb,
}
use Rattle.std.proofs.lemmas.Bool.{cases_lt, and_parts}
use Rattle.std.proofs.lemmas.Bool.Decides.{nat_tests}
use Rattle.std.proofs.lemmas.List.{drop_more}
use Rattle.std.proofs.lemmas.Str.{IsCharBoundary-before_ascii, IsCharBoundary-end}
use Rattle.std.specs.Option.{option_or}
use Rattle.std.specs.List.{prefix_len}
use Rattle.liquid_grammar.specs.meaning.Bytes.{is_white}
use Rattle.liquid_grammar.specs.meaning.Grammar.{Opens}
use Rattle.liquid_grammar.specs.steps.Steps.{
  Reader,
  byte,
  right,
  white,
  braces,
  dashed_opener,
  opener,
  any_opener,
  begins_braces,
  white_start,
  EndsRaw,
}
use Rattle.liquid_grammar.proofs.TextLemmas.{is_white_ascii}
use Rattle.liquid_grammar.proofs.Exact.{begins_found, found_begins}
use Rattle.liquid_grammar.proofs.GrammarExact.{is_some-map, exact-any_opener}

-- an opener begins here
abbrev pub opens : List ℕ → Bool
opens s = is_some (any_opener s)

-- a dashed opener begins here, after any whitespace
abbrev pub dashed : List ℕ → Bool
dashed s = is_some (dashed_opener 123 s) || is_some (dashed_opener 37 s)

-- braces of the kind with a dash after them
abbrev marked : ℕ → List ℕ → Bool
marked kind s = is_some (right (braces kind) (byte 45) s)

is_some-or : {A : Type 0} (o p : Option A) → is_some (option_or o p) ≡ is_some o || is_some p
is_some-or (Some x) p = refl
is_some-or None p = refl

byte_flag : (c : ℕ) (s : List ℕ) → (0 == c) ≡ false → is_some (byte c s) ≡ (slice_index s 0 == c)
byte_flag c [] e = sym e
byte_flag c (b ∷ s) e = go (b == c)
  where
    go : (t : Bool) → let x : Option (ℕ × List ℕ) = Some (b, s) in is_some (cond t x None) ≡ t
    go true = refl
    go false = refl

dashed_shape : (before : List ℕ) (o : Option (ℕ × List ℕ))
    → let h₁ : ℕ × List ℕ → (List ℕ × ℕ) × List ℕ = λ y. ((before, y.0), y.1) in
    let h₂ : (List ℕ × ℕ) × List ℕ → ℕ × List ℕ = λ x. (x.0.1, x.1) in
    let k : ℕ × List ℕ → Option ((ℕ × ℕ) × List ℕ) = λ x. option_map (λ b. ((x.0, b.0), b.1)) (byte 45 x.1) in
    let h₃ : (ℕ × ℕ) × List ℕ → ℕ × List ℕ = λ x. (x.0.1, x.1) in
    is_some (option_map h₃ (option_and_then k (option_map h₂ (option_map h₁ o)))) ≡ is_some (option_map h₃ (option_and_then k o))
dashed_shape before (Some x) = refl
dashed_shape before None = refl

-- a dashed opener begins where its braces follow whitespace
dashed_after : (kind : ℕ) (s : List ℕ) → is_some (dashed_opener kind s) ≡ marked kind (drop (prefix_len is_white s) s)
unfolding dashed_opener white
dashed_after kind s = dashed_shape (take (prefix_len is_white s) s) (braces kind (drop (prefix_len is_white s) s))

after_more : (b : ℕ) (s : List ℕ) → is_white b ≡ true → drop (prefix_len is_white (b ∷ s)) (b ∷ s) ≡ drop (prefix_len is_white s) s
after_more b s e =
    let len : prefix_len is_white (b ∷ s) ≡ suc (prefix_len is_white s) = omega (arith, ap (λ t. cond t (1 + prefix_len is_white s) 0) e) in
    ap (λ n. drop n (b ∷ s)) len

after_none : (b : ℕ) (s : List ℕ) → is_white b ≡ false → drop (prefix_len is_white (b ∷ s)) (b ∷ s) ≡ b ∷ s
after_none b s e = ap (λ t. drop (cond t (1 + prefix_len is_white s) 0) (b ∷ s)) e

dashed_white : (b : ℕ) (s : List ℕ) → is_white b ≡ true → dashed (b ∷ s) ≡ dashed s
dashed_white b s e =
    let one_kind = λ (kind : ℕ). dashed_after kind (b ∷ s) ∙ ap (marked kind) (after_more b s e) ∙ sym (dashed_after kind s) in
    ap₂ (λ x y. x || y) (one_kind 123) (one_kind 37)

opens_parts : (s : List ℕ) → opens s ≡ (is_some (dashed_opener 123 s) || is_some (braces 123 s)) ||
    (is_some (dashed_opener 37 s) || is_some (braces 37 s))
unfolding any_opener opener
opens_parts s =
    is_some-or (option_or (dashed_opener 123 s) (braces 123 s)) (option_or (dashed_opener 37 s) (braces 37 s))
    ∙ ap₂ (λ x y. x || y) (is_some-or (dashed_opener 123 s) (braces 123 s)) (is_some-or (dashed_opener 37 s) (braces 37 s))

-- braces, by their two bytes
braces_shape : (t : Bool) (b : ℕ) (s : List ℕ) (kind : ℕ)
    → let x : Option (ℕ × List ℕ) = Some (b, s) in
    let k : ℕ × List ℕ → Option ((ℕ × ℕ) × List ℕ) = λ x. option_map (λ b. ((x.0, b.0), b.1)) (byte kind x.1) in
    let h : (ℕ × ℕ) × List ℕ → ℕ × List ℕ = λ x. (x.0.1, x.1) in
    is_some (option_map h (option_and_then k (cond t x None))) ≡ t && is_some (byte kind s)
braces_shape true b s kind =
    let k : ℕ × List ℕ → (ℕ × ℕ) × List ℕ = λ y. ((b, y.0), y.1) in
    let h : (ℕ × ℕ) × List ℕ → ℕ × List ℕ = λ x. (x.0.1, x.1) in
    is_some-map h (option_map k (byte kind s)) ∙ is_some-map k (byte kind s)
braces_shape false b s kind = refl

braces_flag : (kind b : ℕ) (s : List ℕ) → (0 == kind) ≡ false → is_some (braces kind (b ∷ s)) ≡ (b == 123) && (slice_index s 0 == kind)
unfolding braces
braces_flag kind b s e = braces_shape (b == 123) b s kind ∙ ap (λ t. (b == 123) && t) (byte_flag kind s e)

-- braces with a dash, by their three bytes
marked_shape : (t : Bool) (b : ℕ) (g : Reader ℕ) (s : List ℕ)
    → let x : Option (ℕ × List ℕ) = Some (b, s) in
    let second : ℕ × List ℕ → Option ((ℕ × ℕ) × List ℕ) = λ x. option_map (λ b. ((x.0, b.0), b.1)) (g x.1) in
    let k : ℕ × List ℕ → Option ((ℕ × ℕ) × List ℕ) = λ x. option_map (λ b. ((x.0, b.0), b.1)) (byte 45 x.1) in
    let h : (ℕ × ℕ) × List ℕ → ℕ × List ℕ = λ x. (x.0.1, x.1) in
    is_some (option_map h (option_and_then k (option_map h (option_and_then second (cond t x None))))) ≡ t && is_some
    (option_map h (option_and_then k (g s)))
marked_shape true b g s = dash_shape b (g s)
  where
    dash_shape : (b : ℕ) (o : Option (ℕ × List ℕ))
        → let h₁ : ℕ × List ℕ → (ℕ × ℕ) × List ℕ = λ y. ((b, y.0), y.1) in
        let h : (ℕ × ℕ) × List ℕ → ℕ × List ℕ = λ x. (x.0.1, x.1) in
        let k : ℕ × List ℕ → Option ((ℕ × ℕ) × List ℕ) = λ x. option_map (λ b. ((x.0, b.0), b.1)) (byte 45 x.1) in
        is_some (option_map h (option_and_then k (option_map h (option_map h₁ o)))) ≡ is_some (option_map h (option_and_then k o))
    dash_shape b (Some x) = refl
    dash_shape b None = refl
marked_shape false b g s = refl

dash_flag : (t : Bool) (c : ℕ) (s : List ℕ)
    → let x : Option (ℕ × List ℕ) = Some (c, s) in
    let k : ℕ × List ℕ → Option ((ℕ × ℕ) × List ℕ) = λ x. option_map (λ b. ((x.0, b.0), b.1)) (byte 45 x.1) in
    let h : (ℕ × ℕ) × List ℕ → ℕ × List ℕ = λ x. (x.0.1, x.1) in
    is_some (option_map h (option_and_then k (cond t x None))) ≡ t && (slice_index s 0 == 45)
dash_flag true c s =
    let k : ℕ × List ℕ → (ℕ × ℕ) × List ℕ = λ y. ((c, y.0), y.1) in
    let h : (ℕ × ℕ) × List ℕ → ℕ × List ℕ = λ x. (x.0.1, x.1) in
    is_some-map h (option_map k (byte 45 s)) ∙ is_some-map k (byte 45 s) ∙ byte_flag 45 s refl
dash_flag false c s = refl

and_assoc : (x y z : Bool) → (x && (y && z)) ≡ ((x && y) && z)
and_assoc true y z = refl
and_assoc false y z = refl

and_false : (x y : Bool) → (x && false) ≡ ((x && y) && false)
and_false true true = refl
and_false true false = refl
and_false false y = refl

marked_flag : (kind b : ℕ) (s : List ℕ) → marked kind (b ∷ s) ≡ ((b == 123) && (slice_index s 0 == kind)) && (slice_index s 1 == 45)
unfolding braces
marked_flag kind b [] = marked_shape (b == 123) b (byte kind) [] ∙ and_false (b == 123) (0 == kind)
marked_flag kind b (c ∷ s) =
    marked_shape (b == 123) b (byte kind) (c ∷ s) ∙ ap (λ t. (b == 123) && t) (dash_flag (c == kind) c s)
    ∙ and_assoc (b == 123) (c == kind) (slice_index s 0 == 45)

either_kind : (t x y d : Bool) → ((t && x) && d) || ((t && y) && d) ≡ (t && (x || y)) && d
either_kind true true y true = refl
either_kind true true true false = refl
either_kind true true false false = refl
either_kind true false y d = refl
either_kind false x y d = refl

dashed_or_not : (t x y d : Bool) → (((t && x) && d) || (t && x)) || (((t && y) && d) || (t && y)) ≡ (t && (x || y))
dashed_or_not true true y true = refl
dashed_or_not true true y false = refl
dashed_or_not true false true true = refl
dashed_or_not true false true false = refl
dashed_or_not true false false true = refl
dashed_or_not true false false false = refl
dashed_or_not false x y d = refl

-- what one byte says about openers before and after it
turn_white : (b : ℕ) (s : List ℕ) → is_white b ≡ true → (opens (b ∷ s) ≡ dashed s) × (dashed (b ∷ s) ≡ dashed s)
turn_white b s e =
    let other : (b == 123) ≡ false = grind (arith, nat_tests) in
    let none = λ (kind : ℕ) (z : (0 == kind) ≡ false). braces_flag kind b s z ∙ ap (λ t. t && (slice_index s 0 == kind)) other in
    let same = dashed_white b s e in (
      opens_parts (b ∷ s) ∙ ap₂ (λ x y. (is_some (dashed_opener 123 (b ∷ s)) || x) || (is_some (dashed_opener 37 (b ∷ s)) || y))
          (none 123 refl) (none 37 refl) ∙ or_false (is_some (dashed_opener 123 (b ∷ s))) (is_some (dashed_opener 37 (b ∷ s))) ∙ same,
      same,
    )
  where
    or_false : (x y : Bool) → (x || false) || (y || false) ≡ x || y
    or_false true y = refl
    or_false false true = refl
    or_false false false = refl

turn_other : (b : ℕ) (s : List ℕ) → is_white b ≡ false
    → let t = (b == 123) && (slice_index s 0 == 123 || slice_index s 0 == 37) in
    (opens (b ∷ s) ≡ t) × (dashed (b ∷ s) ≡ (t && (slice_index s 1 == 45)))
turn_other b s e =
    let m = λ (kind : ℕ). marked_flag kind b s in
    let f = λ (kind : ℕ). dashed_after kind (b ∷ s) ∙ ap (marked kind) (after_none b s e) ∙ m kind in
    let at = b == 123 in
    let x = slice_index s 0 == 123 in
    let y = slice_index s 0 == 37 in
    let d = slice_index s 1 == 45 in (
      opens_parts (b ∷ s) ∙ ap₂ (λ p q. p || q) (ap₂ (λ p q. p || q) (f 123) (braces_flag 123 b s refl))
          (ap₂ (λ p q. p || q) (f 37) (braces_flag 37 b s refl)) ∙ dashed_or_not at x y d,
      ap₂ (λ p q. p || q) (f 123) (f 37) ∙ either_kind at x y d,
    )

next_byte : (s : List ℕ) (i : ℕ) → get_or (drop (i + 1) s) 0 0 ≡ get_or s (i + 1) 0
next_byte s i = rw (get_or-drop (i + 1) s 0 0, add-zero)

second_byte : (s : List ℕ) (i : ℕ) → get_or (drop (i + 1) s) 1 0 ≡ get_or s (i + 2) 0
second_byte s i =
    let more : i + 1 + 1 ≡ i + 2 = omega arith in
    get_or-drop (i + 1) s 1 0 ∙ ap (λ k. get_or s k 0) more

white_at : (s : List ℕ) (i : ℕ) → i < length s → is_white (get_or s i 0) ≡ true → (opens (drop i s) ≡ dashed (drop (i + 1) s))
    × (dashed (drop i s) ≡ dashed (drop (i + 1) s))
white_at s i h e =
    let t = turn_white (get_or s i 0) (drop (i + 1) s) e in
    let m = sym (drop_more s i 0 h) in
    subst (λ (x : List ℕ). (opens x ≡ dashed (drop (i + 1) s)) × (dashed x ≡ dashed (drop (i + 1) s))) m t

other_at : (s : List ℕ) (i : ℕ) → i < length s → is_white (get_or s i 0) ≡ false → (opens (drop i s) ≡ begins_braces s i)
    × (dashed (drop i s) ≡ (begins_braces s i && (slice_index s (i + 2) == 45)))
other_at s i h e =
    let t = turn_other (get_or s i 0) (drop (i + 1) s) e in
    let m = sym (drop_more s i 0 h) in
    let P : List ℕ → ℕ → ℕ → Type 0 = λ x b d.
    let t = (get_or s i 0 == 123) && (b == 123 || b == 37) in
    (opens x ≡ t) × (dashed x ≡ (t && (d == 45))) in
    subst (λ (d : ℕ). P (drop i s) (get_or s (i + 1) 0) d) (second_byte s i)
    (subst (λ (b : ℕ). P (drop i s) b (get_or (drop (i + 1) s) 1 0)) (next_byte s i)
    (subst (λ (x : List ℕ). P x (get_or (drop (i + 1) s) 0 0) (get_or (drop (i + 1) s) 1 0)) m t))

-- no opener begins before `white`, and from there to `at` one begins only where a dashed one follows
pub record Passed (s : List ℕ) (white at : ℕ) : Type 0 where
  pub order : white ≤ at
  pub closed : (k : ℕ) → k < white → opens (drop k s) ≡ false
  pub same : (k : ℕ) → white ≤ k → k < at → opens (drop k s) ≡ dashed (drop at s)

pub passed_white : (s : List ℕ) (white at : ℕ) → at < length s → Passed s white at → is_white (get_or s at 0) ≡ true
    → Passed s white (at + 1)
passed_white s white at h p e =
    let t = white_at s at h e in
    record {
      order = omega (arith, p.order);
      closed = p.closed;
      same = λ k l u. elim (cases_lt k at) [
        | inl below ↦ p.same k l below ∙ t.1
        | inr above ↦ let here : k ≡ at = omega arith in ap (λ x. opens (drop x s)) here ∙ t.0
      ];
    }

pub passed_other : (s : List ℕ) (white at : ℕ) → at < length s → Passed s white at → is_white (get_or s at 0) ≡ false
    → begins_braces s at ≡ false → Passed s (at + 1) (at + 1)
passed_other s white at h p e none =
    let t = other_at s at h e in
    record {
      order = omega arith;
      closed = λ k u. elim (cases_lt k at) [
        | inl below ↦ (elim (cases_lt k white) [
          | inl early ↦ p.closed k early
          | inr late ↦ p.same k late below ∙ t.1 ∙ ap (λ x. x && (slice_index s (at + 2) == 45)) none
        ])
        | inr above ↦ let here : k ≡ at = omega arith in ap (λ x. opens (drop x s)) here ∙ t.0 ∙ none
      ];
      same = λ k l u. absurd (omega arith);
    }

-- there is no open brace from `from` up to `at`
abbrev pub Braceless : List ℕ → ℕ → ℕ → Type 0
Braceless s from at = (k : ℕ) → from ≤ k → k < at → ¬ ((slice_index s k == 123) ≡ true)

-- one more byte that is not an open brace
passed_step : (s : List ℕ) (white at : ℕ) → at < length s → ¬ ((slice_index s at == 123) ≡ true) → Passed s white at
    → Passed s (cond (is_white (slice_index s at)) white (at + 1)) (at + 1)
passed_step s white at h none p = go (is_white (slice_index s at)) refl
  where
    no_braces : (t : Bool) → (slice_index s at == 123) ≡ t → begins_braces s at ≡ false
    no_braces true e = absurd (none e)
    no_braces false e = ap (λ t. t && (slice_index s (at + 1) == 123 || slice_index s (at + 1) == 37)) e

    go : (t : Bool) → is_white (slice_index s at) ≡ t → Passed s (cond t white (at + 1)) (at + 1)
    go true e = passed_white s white at h p e
    go false e = passed_other s white at h p e (no_braces (slice_index s at == 123) refl)

-- what was passed after `from` without an open brace
passed_on : (s : List ℕ) (from n : ℕ) → from + n ≤ length s → Passed s from from → Braceless s from (from + n)
    → Passed s (white_start s from n) (from + n)
unfolding white_start
passed_on s from zero h p none = let same : from ≡ from + 0 = omega arith in subst (λ x. Passed s from x) same p
passed_on s from (suc n) h p none =
    let next : from + n + 1 ≡ from + suc n = omega arith in
    let before = passed_on s from n (omega arith) p (λ k l u. none k l (omega arith)) in
    subst (λ x. Passed s (white_start s from (suc n)) x) next
    (passed_step s (white_start s from n) (from + n) (omega arith) (none (from + n) (omega arith) (omega arith)) before)

pub passed_to : (s : List ℕ) (from at : ℕ) → from ≤ at → at ≤ length s → Passed s from from → Braceless s from at
    → Passed s (white_start s from (at - from)) at
passed_to s from at l h p none =
    let same : from + (at - from) ≡ at = omega (arith, l) in
    subst (λ x. Passed s (white_start s from (at - from)) x) same
    (passed_on s from (at - from) (omega (arith, l, h)) p (λ k lo hi. none k lo (omega (arith, l, hi))))

-- after an open brace that begins no opener
pub passed_brace : (s : List ℕ) (from at : ℕ) → from ≤ at → at < length s → Passed s from from → Braceless s from at
    → (slice_index s at == 123) ≡ true → begins_braces s at ≡ false → Passed s (at + 1) (at + 1)
passed_brace s from at l h p none e other =
    let b : slice_index s at ≡ 123 = eqb-true (slice_index s at) 123 e in
    passed_other s (white_start s from (at - from)) at h (passed_to s from at l (omega (arith, h)) p none) (ap is_white b) other

-- the whitespace before an index begins where the byte before it is not white, or at `from`
pub white_start_less : (s : List ℕ) (from at : ℕ) → from < at → is_white (slice_index s (at - 1)) ≡ true
    → white_start s from (at - from) ≡ white_start s from (at - 1 - from)
unfolding white_start
white_start_less s from at h e =
    let len : at - from ≡ suc (at - 1 - from) = omega (arith, h) in
    let place : from + (at - 1 - from) ≡ at - 1 = omega (arith, h) in
    ap (white_start s from) len ∙ ap (λ t. cond t (white_start s from (at - 1 - from)) (from + (at - 1 - from) + 1))
    (ap (λ k. is_white (slice_index s k)) place ∙ e)

pub white_start_here : (s : List ℕ) (from at : ℕ) → from < at → is_white (slice_index s (at - 1)) ≡ false
    → white_start s from (at - from) ≡ at
unfolding white_start
white_start_here s from at h e =
    let len : at - from ≡ suc (at - 1 - from) = omega (arith, h) in
    let place : from + (at - 1 - from) ≡ at - 1 = omega (arith, h) in
    let next : from + (at - 1 - from) + 1 ≡ at = omega (arith, h) in
    ap (white_start s from) len ∙ ap (λ t. cond t (white_start s from (at - 1 - from)) (from + (at - 1 - from) + 1))
    (ap (λ k. is_white (slice_index s k)) place ∙ e) ∙ next

pub white_start_from : (s : List ℕ) (from at : ℕ) → at ≡ from → white_start s from (at - from) ≡ from
unfolding white_start
white_start_from s from at e = let none : at - from ≡ 0 = omega (arith, e) in ap (white_start s from) none

pub opens_from : (s : List ℕ) → opens s ≡ true → Opens s
opens_from s = begins_found exact-any_opener s

pub closed_from : (s : List ℕ) → opens s ≡ false → ¬ (Opens s)
closed_from s e b = let t = found_begins exact-any_opener s b in cc

braces_ascii : (s : List ℕ) (at : ℕ) → begins_braces s at ≡ true → (get_or s at 0 < 128) × (is_white (get_or s at 0) ≡ false)
braces_ascii s at e =
    let b : get_or s at 0 ≡ 123 = eqb-true (get_or s at 0) 123 (and_parts (get_or s at 0 == 123) _ e).0 in
    (omega arith, ap is_white b)

opens_ascii : (s : List ℕ) (i : ℕ) → i < length s → opens (drop i s) ≡ true → get_or s i 0 < 128
opens_ascii s i h e = go (is_white (get_or s i 0)) refl
  where
    go : (t : Bool) → is_white (get_or s i 0) ≡ t → get_or s i 0 < 128
    go true w = is_white_ascii (get_or s i 0) w
    go false w = (braces_ascii s i (sym (other_at s i h w).0 ∙ e)).0

-- the first place where an opener begins
ends_at : (s : List ℕ) (n : ℕ) → n < length s → ((k : ℕ) → k < n → opens (drop k s) ≡ false) → opens (drop n s) ≡ true → EndsRaw s n
ends_at s n h closed e = record {
  closed = λ k u. closed_from (drop k s) (closed k u);
  stops = λ _. opens_from (drop n s) e;
  boundary = IsCharBoundary-before_ascii s n h (opens_ascii s n h e);
}

-- braces at the beginning end it there
pub ends_here : (s : List ℕ) → 0 < length s → begins_braces s 0 ≡ true → EndsRaw s 0
ends_here s h e = ends_at s 0 h (λ k u. absurd (omega (arith, u))) ((other_at s 0 h (braces_ascii s 0 e).1).0 ∙ e)

-- braces with no dash end it
pub ends_at_braces : (s : List ℕ) (white at : ℕ) → at < length s → Passed s white at → begins_braces s at ≡ true
    → ¬ (slice_index s (at + 2) ≡ 45) → EndsRaw s at
ends_at_braces s white at h p e other =
    let dash : (slice_index s (at + 2) == 45) ≡ false = ne_eqb _ _ other in
    let t = other_at s at h (braces_ascii s at e).1 in
    let closed : (k : ℕ) → k < at → opens (drop k s) ≡ false = λ k u. elim (cases_lt k white) [
      | inl early ↦ p.closed k early
      | inr late ↦ p.same k late u ∙ t.1 ∙ ap₂ (λ x y. x && y) e dash
    ] in
    ends_at s at h closed (t.0 ∙ e)

-- braces with a dash end it before their whitespace
pub ends_at_white : (s : List ℕ) (white at : ℕ) → at < length s → Passed s white at → begins_braces s at ≡ true
    → slice_index s (at + 2) ≡ 45 → EndsRaw s white
ends_at_white s white at h p e same =
    let dash : (slice_index s (at + 2) == 45) ≡ true = eq-eqb _ _ same in
    let t = other_at s at h (braces_ascii s at e).1 in
    let order = p.order in
    let here : opens (drop white s) ≡ true = elim (cases_lt white at) [
      | inl before ↦ p.same white (omega arith) before ∙ t.1 ∙ ap₂ (λ x y. x && y) e dash
      | inr after ↦ let same : white ≡ at = omega arith in ap (λ x. opens (drop x s)) same ∙ t.0 ∙ e
    ] in
    ends_at s white (omega arith) p.closed here

dashed_end : dashed [] ≡ false
unfolding dashed_opener white braces
dashed_end = refl

-- a text without openers is raw
pub ends_at_end : (s : List ℕ) (white at : ℕ) → length s ≤ at → Passed s white at → EndsRaw s (length s)
ends_at_end s white at past p = record {
  closed = λ k u. closed_from (drop k s) (elim (cases_lt k white) [
    | inl early ↦ p.closed k early
    | inr late ↦ let before : k < at = omega arith in p.same k late before ∙ ap dashed (drop_of_length-le s past) ∙ dashed_end
  ]);
  stops = λ h. absurd (omega arith);
  boundary = IsCharBoundary-end s;
}
