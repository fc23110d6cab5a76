-- The reader of each rule is exact.
use Rattle.std.proofs.Common.{
  ◌≡◌,
  ℕ,
  suc,
  ◌+◌,
  Bool,
  true,
  false,
  cond,
  not,
  ◌&&◌,
  ◌||◌,
  ◌==◌,
  List,
  [],
  ◌∷◌,
  ◌++◌,
  take,
  drop,
  Option,
  Some,
  None,
  is_some,
  option_map,
  option_and_then,
  slice_index,
  refl,
  sym,
  ap,
  ◌∙◌,
  subst,
  ap₂,
  arith,
  take-append-drop,
}
use Rattle.std.proofs.lemmas.Option.{same_Some}
use Rattle.std.specs.Option.{option_or}
use Rattle.std.specs.List.{prefix_len}
use Rattle.liquid_grammar.specs.meaning.Bytes.{is_white, starts_name, is_word}
use Rattle.liquid_grammar.specs.meaning.Rules.{Rule, Begins, One, here, instead, Repeated, ends, more, Byte, ◌▷◌, ◌◁◌}
use Rattle.liquid_grammar.specs.meaning.Grammar.{
  White,
  Braces,
  Opener,
  Closer,
  AnyOpener,
  NameByte,
  Identifier,
  is_literal_word,
  Name,
  LoneBrace,
}
use Rattle.liquid_grammar.specs.steps.Steps.{
  Reader,
  one,
  byte,
  either,
  ahead,
  left,
  run,
  white,
  braces,
  dashed_opener,
  opener,
  any_opener,
  dashed_closer,
  closer,
  is_name_byte,
  name_len,
  name_bytes,
  identifier,
  name,
  lone_brace,
}
use Rattle.liquid_grammar.proofs.Exact.{
  Exact,
  none_begins,
  finds_none,
  exact-one,
  exact-byte,
  exact-both,
  exact-either,
  exact-right,
  exact-left,
  exact-only,
  exact-text,
  exact-ahead,
  Shrinks,
  shrinks-one,
  shrinks-first,
  shrinks-second,
  shrinks-seen,
  shrinks-else,
  shrinks-text,
}

-- R takes one byte at a time, which is its shape
abbrev pub TakesBytes : Rule ℕ → Type 0
TakesBytes R = (s rest : List ℕ) (b : ℕ) → R s rest b → s ≡ b ∷ rest

-- a list and what follows it, read by repeating f byte by byte
abbrev pub Repeats : Reader ℕ → (List ℕ → ℕ) → Type 0
Repeats f n = (n [] ≡ 0) × ((b : ℕ) (s : List ℕ) → n (b ∷ s) ≡ cond (is_some (f (b ∷ s))) (1 + n s) 0)

abbrev pub counted : (List ℕ → ℕ) → Reader (List ℕ)
counted n s = Some (take (n s) s, drop (n s) s)

repeated_sound : {f : Reader ℕ} {R : Rule ℕ} (n : List ℕ → ℕ) → Exact f R → TakesBytes R → Repeats f n → (s : List ℕ)
    → Repeated R s (drop (n s) s) (take (n s) s)
repeated_sound {f = f} {R = R} n F one_byte r [] =
    let stop : ¬ (Begins R []) = λ b. let e = one_byte [] b.rest b.shape b.match in cc in
    subst (λ (k : ℕ). Repeated R [] (drop k []) (take k [])) (sym r.0) (ends stop)
repeated_sound {f = f} {R = R} n F one_byte r (b ∷ s) = go (f (b ∷ s)) refl (repeated_sound n F one_byte r s)
  where
    go : (o : Option (ℕ × List ℕ)) → f (b ∷ s) ≡ o → Repeated R s (drop (n s) s) (take (n s) s)
        → Repeated R (b ∷ s) (drop (n (b ∷ s)) (b ∷ s)) (take (n (b ∷ s)) (b ∷ s))
    go (Some x) h more_of =
        let found = F.sound (b ∷ s) x.1 x.0 h in
        let e = one_byte (b ∷ s) x.1 x.0 found in
        let tails : x.1 ≡ s = sym (ap (drop 1) e) in
        let heads : x.0 ≡ b = cc in
        let here : R (b ∷ s) s b = subst (λ (y : List ℕ). R (b ∷ s) y b) tails (subst (λ (c : ℕ). R (b ∷ s) x.1 c) heads found) in
        let len : suc (n s) ≡ n (b ∷ s) = omega (arith, r.1 b s ∙ ap (λ o. cond (is_some o) (1 + n s) 0) h) in
        subst (λ (k : ℕ). Repeated R (b ∷ s) (drop k (b ∷ s)) (take k (b ∷ s))) len (more here more_of)
    go None h more_of =
        subst (λ (k : ℕ). Repeated R (b ∷ s) (drop k (b ∷ s)) (take k (b ∷ s)))
        (sym (r.1 b s ∙ ap (λ o. cond (is_some o) (1 + n s) 0) h)) (ends (none_begins F (b ∷ s) h))

counted_parts : (n : List ℕ → ℕ) (s rest a : List ℕ) → counted n s ≡ Some (a, rest) → (take (n s) s ≡ a) × (drop (n s) s ≡ rest)
counted_parts n s rest a e = let q = same_Some _ _ e in (ap (λ x. x.0) q, ap (λ x. x.1) q)

repeated_complete : {f : Reader ℕ} {R : Rule ℕ} (n : List ℕ → ℕ) → Exact f R → TakesBytes R → Repeats f n → (s rest a : List ℕ)
    → Repeated R s rest a → counted n s ≡ Some (a, rest)
repeated_complete {f = f} {R = R} n F one_byte r s rest a (ends stop) = go s (finds_none F s stop)
  where
    at : (t : List ℕ) → n t ≡ 0 → counted n t ≡ Some ([], t)
    at t e = ap (λ (k : ℕ). let x : Option (List ℕ × List ℕ) = Some (take k t, drop k t) in x) e

    go : (t : List ℕ) → f t ≡ None → counted n t ≡ Some ([], t)
    go [] h = at [] r.0
    go (b ∷ t) h = at (b ∷ t) (r.1 b t ∙ ap (λ o. cond (is_some o) (1 + n t) 0) h)
repeated_complete {f = f} {R = R} n F one_byte r s rest a (more {middle = t} {shape = b} {shapes = bs} m ms) =
    let e : s ≡ b ∷ t = one_byte s t b m in
    let h : f (b ∷ t) ≡ Some (b, t) = ap f (sym e) ∙ F.complete s t b m in
    let len : n (b ∷ t) ≡ suc (n t) = omega (arith, r.1 b t ∙ ap (λ o. cond (is_some o) (1 + n t) 0) h) in
    let q = counted_parts n t rest bs (repeated_complete n F one_byte r t rest bs ms) in
    let w : List ℕ → List ℕ → Option (List ℕ × List ℕ) = λ x y. Some (b ∷ x, y) in
    ap (counted n) e ∙ ap (λ (k : ℕ). let x : Option (List ℕ × List ℕ) = Some (take k (b ∷ t), drop k (b ∷ t)) in x) len ∙ ap₂ w q.0 q.1

counted_cuts : (n : List ℕ → ℕ) (s rest a : List ℕ) → counted n s ≡ Some (a, rest) → s ≡ a ++ rest
counted_cuts n s rest a e = let q = counted_parts n s rest a e in sym (take-append-drop (n s) s) ∙ ap₂ (λ x y. x ++ y) q.0 q.1

-- counting single bytes is exact for repeating the rule of one
pub exact-counted : {f : Reader ℕ} {R : Rule ℕ} (n : List ℕ → ℕ) → Exact f R → TakesBytes R → Repeats f n → Exact (counted n) (Repeated R)
exact-counted {f = f} {R = R} n F one_byte r = record {
  sound = λ s rest a e.
      let q = counted_parts n s rest a e in
      subst (λ (y : List ℕ). Repeated R s y a) q.1
      (subst (λ (x : List ℕ). Repeated R s (drop (n s) s) x) q.0 (repeated_sound n F one_byte r s));
  complete = repeated_complete n F one_byte r;
  cuts = λ s rest a m. (a, counted_cuts n s rest a (repeated_complete n F one_byte r s rest a m));
}

pub takes_one : (p : ℕ → Bool) → TakesBytes (One p)
takes_one p s rest b m = m.front

tested : (t : Bool) (y : ℕ × List ℕ) (k : ℕ) → cond t k 0 ≡ cond (is_some (cond t (Some y) None)) k 0
tested true y k = refl
tested false y k = refl

pub exact-run : (p : ℕ → Bool) → Exact (run p) (Repeated (One p))
exact-run p = exact-counted (prefix_len p) (exact-one p) (takes_one p) (refl, λ b s. tested (p b) (b, s) (1 + prefix_len p s))

pub exact-white : Exact white White
unfolding white
exact-white = exact-run is_white

pub exact-braces : (kind : ℕ) → Exact (braces kind) (Braces kind)
unfolding braces
exact-braces kind = exact-right (exact-byte 123) (exact-byte kind)

pub exact-dashed_opener : (kind : ℕ) → Exact (dashed_opener kind) (White ▷ Braces kind ▷ Byte 45)
unfolding dashed_opener
exact-dashed_opener kind = exact-right (exact-right exact-white (exact-braces kind)) (exact-byte 45)

pub exact-opener : (kind : ℕ) → Exact (opener kind) (Opener kind)
unfolding opener
exact-opener kind = exact-either (exact-dashed_opener kind) (exact-braces kind)

pub exact-any_opener : Exact any_opener AnyOpener
unfolding any_opener
exact-any_opener = exact-either (exact-opener 123) (exact-opener 37)

pub exact-dashed_closer : (kind : ℕ) → Exact (dashed_closer kind) (Byte 45 ▷ Byte kind ▷ Byte 125 ◁ White)
unfolding dashed_closer
exact-dashed_closer kind = exact-left (exact-right (exact-right (exact-byte 45) (exact-byte kind)) (exact-byte 125)) exact-white

pub exact-closer : (kind : ℕ) → Exact (closer kind) (Closer kind)
unfolding closer
exact-closer kind = exact-either (exact-dashed_closer kind) (exact-right (exact-byte kind) (exact-byte 125))

abbrev name_byte : Reader ℕ
name_byte = either (one is_word) (left (byte 45) (ahead (one is_word)))

exact-name_byte : Exact name_byte NameByte
exact-name_byte = exact-either (exact-one is_word) (exact-left (exact-byte 45) (exact-ahead (exact-one is_word)))

takes_name_byte : TakesBytes NameByte
takes_name_byte s rest b (here m) = m.front
takes_name_byte s rest b (instead h m) =
    m.match.before.front ∙ ap₂ (λ x y. x ∷ y) (sym m.is) (sym m.match.after.stays)

pub is_some-map : {A B : Type 0} (f : A → B) (o : Option A) → is_some (option_map f o) ≡ is_some o
is_some-map f (Some x) = refl
is_some-map f None = refl

-- a byte of one class, or of another with something following it
either_flags : (t d : Bool) (g : Reader (Unit {0})) (b : ℕ) (s : List ℕ)
    → let x : Option (ℕ × List ℕ) = Some (b, s) in
    let k : ℕ × List ℕ → Option ((ℕ × Unit {0}) × List ℕ) = λ a. option_map (λ c. ((a.0, c.0), c.1)) (g a.1) in
    let h : (ℕ × Unit {0}) × List ℕ → ℕ × List ℕ = λ a. (a.0.0, a.1) in
    is_some (option_or (cond t x None) (option_map h (option_and_then k (cond d x None)))) ≡ t || (d && is_some (g s))
either_flags true d g b s = refl
either_flags false false g b s = refl
either_flags false true g b s =
    let k : Unit {0} × List ℕ → (ℕ × Unit {0}) × List ℕ = λ c. ((b, c.0), c.1) in
    let h : (ℕ × Unit {0}) × List ℕ → ℕ × List ℕ = λ a. (a.0.0, a.1) in
    is_some-map h (option_map k (g s)) ∙ is_some-map k (g s)

ahead_flag : (t : Bool) (y : ℕ × List ℕ) (z : Unit {0} × List ℕ) → is_some (cond (is_some (cond t (Some y) None)) (Some z) None) ≡ t
ahead_flag true y z = refl
ahead_flag false y z = refl

word_ahead : (s : List ℕ) → is_some (ahead (one is_word) s) ≡ is_word (slice_index s 0)
word_ahead [] = refl
word_ahead (b ∷ s) = ahead_flag (is_word b) (b, s) (tt, b ∷ s)

name_byte_is : (b : ℕ) (s : List ℕ) → is_some (name_byte (b ∷ s)) ≡ is_name_byte b s
name_byte_is b s = either_flags (is_word b) (b == 45) (ahead (one is_word)) b s ∙ ap (λ t. is_word b || (b == 45 && t)) (word_ahead s)

repeats_name : Repeats name_byte name_len
unfolding name_len
repeats_name = (refl, λ b s. ap (λ t. cond t (1 + name_len s) 0) (sym (name_byte_is b s)))

pub exact-name_bytes : Exact name_bytes (Repeated NameByte)
exact-name_bytes = exact-counted name_len exact-name_byte takes_name_byte repeats_name

pub exact-identifier : Exact identifier Identifier
unfolding identifier
exact-identifier = exact-text (exact-both (exact-one starts_name) exact-name_bytes)

pub exact-name : Exact name Name
unfolding name
exact-name = exact-only (λ word. not (is_literal_word word)) exact-identifier

pub exact-lone_brace : Exact lone_brace LoneBrace
unfolding lone_brace
exact-lone_brace = exact-text (exact-both exact-white (exact-byte 123))

-- rules that take something
pub shrinks-opener : (kind : ℕ) → Shrinks (Opener kind)
shrinks-opener kind =
    shrinks-else (shrinks-seen (λ p. p.1) (shrinks-second (exact-right exact-white (exact-braces kind)).cuts (shrinks-one (λ c. c == 45))))
    (shrinks-seen (λ p. p.1) (shrinks-first (shrinks-one (λ c. c == 123)) (exact-byte kind).cuts))

pub shrinks-lone_brace : Shrinks LoneBrace
shrinks-lone_brace = shrinks-text (shrinks-second exact-white.cuts (shrinks-one (λ c. c == 123)))
