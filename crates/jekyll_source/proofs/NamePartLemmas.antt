-- The parts of a name: each leaves less of it.
use Rattle.std.proofs.Common.{
  ◌≡◌,
  ◌≢◌,
  ℕ,
  zero,
  suc,
  ◌+◌,
  ◌-◌,
  ◌<◌,
  ◌≤◌,
  Bool,
  true,
  false,
  List,
  [],
  ◌∷◌,
  ◌++◌,
  Option,
  Some,
  None,
  length,
  take,
  drop,
  codes,
  refl,
  sym,
  ap,
  ◌∙◌,
  arith,
  append_assoc,
  append-nil,
  get_or,
  subst,
  inl,
  inr,
  get_or-drop,
  length-drop,
}
use Rattle.std.specs.Option.{option_and_then, option_map, option_map_or, unwrap_or}
use Rattle.std.specs.Str.{byte, IsCharBoundary}
use Rattle.std.proofs.lemmas.Bool.{cases_lt}
use Rattle.std.proofs.lemmas.Str.{IsCharBoundary-before_ascii, IsCharBoundary-end}
use Rattle.memchr.specs.Find.{FindsNeedle}
use Rattle.memchr.proofs.lemmas.ValueLemmas.{FindsNeedle-value}
use Rattle.memchr.specs.Find.{first_of, matches}
use Rattle.jekyll_source.specs.meaning.Literals.{literal}
use Rattle.jekyll_source.specs.meaning.Names.{chain_of, enclosed, next_part, open_place, parts, parts_in, text_len, until_open}
use Rattle.jekyll_source.specs.meaning.Splits.{Parts, after_opener, split_around}
use Rattle.jekyll_source.proofs.PieceLemmas.{after_shorter}
use Rattle.jekyll_source.proofs.Shorter.{drop_shorter}

-- a text may be cut before a brace, and at its end
pub cuts_at_brace : (text : List ℕ) (n : ℕ) → n ≤ length text → (n < length text → get_or text n 0 ≡ byte "{") → IsCharBoundary text n
cuts_at_brace text n within stops = elim (cases_lt n (length text)) [
  | inl inside ↦ let brace = stops inside in IsCharBoundary-before_ascii text n inside (omega arith)
  | inr past ↦ let same : length text ≡ n = omega arith in subst (IsCharBoundary text) same (IsCharBoundary-end text)
]

-- the next `{{` after the first byte
pub open_found : (name : List ℕ) (at : ℕ) → FindsNeedle (drop 1 name) (codes "{{") 0 (Some at) → 1 + at ≡ text_len name
open_found name at found =
    ap (λ o. 1 + unwrap_or o (length (drop 1 name))) (FindsNeedle-value (drop 1 name) (codes "{{") (Some at) found)

pub no_open : (name : List ℕ) → 1 ≤ length name → FindsNeedle (drop 1 name) (codes "{{") 0 None → length name ≡ text_len name
no_open name more found =
    let whole : length name ≡ 1 + length (drop 1 name) = omega (arith, length-drop 1 name) in
    whole ∙ ap (λ o. 1 + unwrap_or o (length (drop 1 name))) (FindsNeedle-value (drop 1 name) (codes "{{") None found)

pub brace_there : (name : List ℕ) (at : ℕ) → FindsNeedle (drop 1 name) (codes "{{") 0 (Some at) → get_or name (1 + at) 0 ≡ byte "{"
brace_there name at found =
    let same : at + 0 ≡ at = omega arith in
    sym (get_or-drop 1 name at 0) ∙ ap (λ k. get_or (drop 1 name) k 0) (sym same) ∙ found.1.reads 0 (omega arith)

text_shorter : (b : ℕ) (bs : List ℕ) → length (until_open (b ∷ bs)).1 ≤ length bs
text_shorter b bs = omega (arith, length-drop (text_len (b ∷ bs)) (b ∷ bs))

-- the first part leaves less of a name
next_shorter : (b : ℕ) (bs : List ℕ) (p : Parts) → next_part (b ∷ bs) ≡ Some p → length p.1 ≤ length bs
next_shorter b bs p = opened (after_opener (byte "{") (b ∷ bs)) refl
  where
    around : (rest : List ℕ) → length rest + 2 ≡ length (b ∷ bs) → (r : Option ℕ)
        → (let o : Option Parts = option_map (λ (q : Parts). (byte " " ∷ chain_of q.0, q.1))
        (option_map (λ at. (take at rest, drop (at + length (codes "}}")) rest)) r) in o ≡ Some p) → length p.1 ≤ length bs
    around rest less None e = absurd (cc)
    around rest less (Some at) e =
        let same : drop (at + length (codes "}}")) rest ≡ p.1 = ap (λ o. (unwrap_or o p).1) e in
        omega (arith, ap length same, drop_shorter (at + length (codes "}}")) rest)

    lit : (l : Option (List ℕ)) → (let o : Option Parts = option_map (λ t. (byte " " ∷ t, (until_open (b ∷ bs)).1)) l in o ≡ Some p)
        → length p.1 ≤ length bs
    lit None e = absurd (cc)
    lit (Some t) e =
        let same : (until_open (b ∷ bs)).1 ≡ p.1 = ap (λ o. (unwrap_or o p).1) e in omega (arith, ap length same, text_shorter b bs)

    opened : (o : Option (List ℕ)) → after_opener (byte "{") (b ∷ bs) ≡ o
        → option_map_or (λ rest. option_map (λ (q : Parts). (byte " " ∷ chain_of q.0, q.1)) (split_around (codes "}}") rest)) o
        (option_map (λ l. (byte " " ∷ l, (until_open (b ∷ bs)).1)) (literal (byte "\"") (until_open (b ∷ bs)).0)) ≡ Some p
        → length p.1 ≤ length bs
    opened None e = lit (literal (byte "\"") (until_open (b ∷ bs)).0)
    opened (Some rest) e = around rest (after_shorter (byte "{") (b ∷ bs) rest e) (first_of (matches rest (codes "}}") 0))

joined : Parts → Option (List ℕ) → Option (List ℕ)
joined p o = option_map (λ ps. p.0 ++ ps) o

-- as many parts as bytes are all parts
all_parts : (n m : ℕ) (name : List ℕ) → length name ≤ n → length name ≤ m → parts_in n name ≡ parts_in m name
all_parts zero zero name h k = refl
all_parts zero (suc m) [] h k = refl
all_parts (suc n) zero [] h k = refl
all_parts (suc n) (suc m) [] h k = refl
all_parts zero (suc m) (b ∷ bs) h k = absurd (omega arith)
all_parts (suc n) zero (b ∷ bs) h k = absurd (omega arith)
all_parts (suc n) (suc m) (b ∷ bs) h k = go (next_part (b ∷ bs)) refl (λ p less. all_parts n m p.1 (omega arith) (omega arith))
  where
    go : (o : Option Parts) → next_part (b ∷ bs) ≡ o
        → ((p : Parts) → length p.1 ≤ length bs → parts_in n p.1 ≡ parts_in m p.1)
        → option_and_then (λ p. option_map (λ ps. p.0 ++ ps) (parts_in n p.1)) o
        ≡ option_and_then (λ p. option_map (λ ps. p.0 ++ ps) (parts_in m p.1)) o
    go None e more = refl
    go (Some p) e more = ap (option_map (λ ps. p.0 ++ ps)) (more p (next_shorter b bs p e))

-- the parts of a name: the first, and those of the rest
pub next_parts : (b : ℕ) (bs : List ℕ) → parts (b ∷ bs)
    ≡ option_and_then (λ p. option_map (λ ps. p.0 ++ ps) (parts p.1)) (next_part (b ∷ bs))
next_parts b bs = go (next_part (b ∷ bs)) refl
  where
    go : (o : Option Parts) → next_part (b ∷ bs) ≡ o
        → option_and_then (λ p. option_map (λ ps. p.0 ++ ps) (parts_in (length bs) p.1)) o
        ≡ option_and_then (λ p. option_map (λ ps. p.0 ++ ps) (parts p.1)) o
    go None e = refl
    go (Some p) e = ap (option_map (λ ps. p.0 ++ ps))
        (all_parts (length bs) (length p.1) p.1 (next_shorter b bs p e) (omega arith))

-- one turn over the parts of a name
pub part_turn : (out new rest after : List ℕ) (whole : Option (List ℕ)) → rest ≢ []
    → (let o : Option Parts = Some (new, after) in o ≡ option_map (λ p. (out ++ p.0, p.1)) (next_part rest))
    → option_map (λ ps. out ++ (ps ++ codes " >")) (parts rest) ≡ whole
    → option_map (λ ps. new ++ (ps ++ codes " >")) (parts after) ≡ whole
part_turn out new [] after whole more is held = absurd (more refl)
part_turn out new (b ∷ bs) after whole more is held =
    go (next_part (b ∷ bs)) is (sym (ap (option_map (λ ps. out ++ (ps ++ codes " >"))) (next_parts b bs)) ∙ held)
  where
    inner : (front : List ℕ) (o : Option (List ℕ)) → option_map (λ ps. (out ++ front) ++ (ps ++ codes " >")) o
        ≡ option_map (λ ps. out ++ (ps ++ codes " >")) (option_map (λ ps. front ++ ps) o)
    inner front None = refl
    inner front (Some ps) = ap Some
        (append_assoc out front (ps ++ codes " >") ∙ ap (λ l. out ++ l) (sym (append_assoc front ps (codes " >"))))

    go : (o : Option Parts) → (let r : Option Parts = Some (new, after) in r ≡ option_map (λ p. (out ++ p.0, p.1)) o)
        → option_map (λ ps. out ++ (ps ++ codes " >")) (option_and_then (λ p. option_map (λ ps. p.0 ++ ps) (parts p.1)) o) ≡ whole
        → option_map (λ ps. new ++ (ps ++ codes " >")) (parts after) ≡ whole
    go None e h = absurd (cc)
    go (Some p) e h =
        let grown : new ≡ out ++ p.0 = ap (λ o. (unwrap_or o p).0) e in
        let left : after ≡ p.1 = ap (λ o. (unwrap_or o p).1) e in
        ap (λ n. option_map (λ ps. n ++ (ps ++ codes " >")) (parts after)) grown
        ∙ ap (λ t. option_map (λ ps. (out ++ p.0) ++ (ps ++ codes " >")) (parts t)) left
        ∙ inner p.0 (parts p.1) ∙ h

-- before the first part
pub part_start : (out new : List ℕ) (o : Option (List ℕ)) → new ≡ out ++ codes "<"
    → option_map (λ ps. new ++ (ps ++ codes " >")) o ≡ option_map (λ ps. out ++ enclosed ps) o
part_start out new None e = refl
part_start out new (Some ps) e = ap Some (ap (λ n. n ++ (ps ++ codes " >")) e ∙ append_assoc out (codes "<") (ps ++ codes " >"))

-- after the last one
pub part_end : (out new rest : List ℕ) (whole : Option (List ℕ)) → rest ≡ [] → new ≡ out ++ codes " >"
    → option_map (λ ps. out ++ (ps ++ codes " >")) (parts rest) ≡ whole → Some new ≡ whole
part_end out new [] whole none grown held = ap Some grown ∙ held
part_end out new (b ∷ bs) whole none grown held = absurd (cc)

pub part_shorter : (out new rest after : List ℕ) → rest ≢ []
    → (let o : Option Parts = Some (new, after) in o ≡ option_map (λ p. (out ++ p.0, p.1)) (next_part rest)) → length after < length rest
part_shorter out new [] after more is = absurd (more refl)
part_shorter out new (b ∷ bs) after more is = go (next_part (b ∷ bs)) refl is
  where
    go : (o : Option Parts) → next_part (b ∷ bs) ≡ o
        → (let r : Option Parts = Some (new, after) in r ≡ option_map (λ p. (out ++ p.0, p.1)) o) → length after < length (b ∷ bs)
    go None e h = absurd (cc)
    go (Some p) e h =
        let left : after ≡ p.1 = ap (λ o. (unwrap_or o p).1) h in omega (arith, ap length left, next_shorter b bs p e)
