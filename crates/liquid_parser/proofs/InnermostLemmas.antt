-- The innermost of the blocks that are open, which is the last one in the program.
use Rattle.std.proofs.Common.{◌≡◌, ◌-◌, ℕ, List, [], ◌∷◌, ◌++◌, length, map, Option, Some, None, Ok, Err, get_or, refl, sym, ap, ◌∙◌, arith}
use Rattle.std.specs.Prelude.{reverse, slice_get, slice_set, IfSome}
use Rattle.std.proofs.lemmas.List.{length-append}
use Rattle.std.proofs.lemmas.Option.{slice_get-get_or, get_or_from_slice_get}
use Rattle.std.proofs.Math.Seq.{set-append_seam, get_or-append_seam}
use Rattle.liquid_error.specs.meaning.Refusal.{Refusal, ok_then}
use Rattle.liquid_grammar.specs.meaning.Tokens as token
use Rattle.liquid_plugins.specs.meaning.Nodes.{NodeShape}
use Rattle.liquid_parser.specs.meaning.Reading.{Open, State, among, closed, parted}
use Rattle.liquid_parser.proofs.DispatchLemmas.{push_block, then_err}

-- a list that means this innermost item inside others: its last item means the one, and the items before it the others
pub record Innermost {A C : Type 0} (f : A → C) (xs : List A) (y : C) (ys : List C) : Type 0 where
  pub front : List A
  pub last : A
  pub is : xs ≡ front ++ last ∷ []
  pub last_is : f last ≡ y
  pub around_is : reverse (map f front) ≡ ys

split_last : {A : Type 0} (x : A) (xs : List A) → (front : List A) × (last : A) × (x ∷ xs ≡ front ++ last ∷ [])
split_last x [] = ([], x, refl)
split_last x (z ∷ zs) = let w = split_last z zs in (x ∷ w.0, w.1, ap (λ l. x ∷ l) w.2)

pub innermost : {A C : Type 0} (f : A → C) (xs : List A) (y : C) (ys : List C) → reverse (map f xs) ≡ y ∷ ys → Innermost f xs y ys
innermost f [] y ys e = absurd (cc)
innermost f (x ∷ xs) y ys e =
    let w = split_last x xs in
    let whole = sym (push_block f w.0 w.1 w.2) ∙ e in
    record { front = w.0; last = w.1; is = w.2; last_is = cc; around_is = cc }

-- without items there is no innermost one
pub none_innermost : {A C : Type 0} (f : A → C) (xs : List A) (y : C) (ys : List C) → xs ≡ [] → reverse (map f xs) ≡ y ∷ ys → ⊥
none_innermost f xs y ys none e =
    let both : [] ≡ y ∷ ys = sym (ap (λ l. reverse (map f l)) none) ∙ e in
    cc

-- the item at the end of a list of that length
at_end : {A : Type 0} (xs front : List A) (last : A) (n : ℕ) → n ≡ length xs → xs ≡ front ++ last ∷ [] → (d : A)
    → get_or xs (n - 1) d ≡ last
at_end xs front last n count is d =
    let place : n - 1 ≡ length front = omega (arith, count, ap length is, length-append front (last ∷ [])) in
    ap (λ l. get_or l (n - 1) d) is ∙ (ap (λ i. get_or (front ++ last ∷ []) i d) place ∙ get_or-append_seam front last [] d)

pub last_found : {A : Type 0} (xs : List A) (n : ℕ) (a : A) → n ≡ length xs → slice_get xs (n - 1) ≡ Some a → (front : List A)
    × (xs ≡ front ++ a ∷ [])
last_found [] n a count e = absurd (cc)
last_found (x ∷ xs) n a count e =
    let w = split_last x xs in
    (w.0, w.2 ∙ ap (λ l. w.0 ++ l ∷ []) (sym (at_end (x ∷ xs) w.0 w.1 n count w.2 a) ∙ get_or_from_slice_get (x ∷ xs) (n - 1) a a e))

pub last_missing : {A : Type 0} (xs : List A) (n : ℕ) → n ≡ length xs → slice_get xs (n - 1) ≡ None → xs ≡ []
last_missing [] n count e = refl
last_missing (x ∷ xs) n count e =
    let found : slice_get (x ∷ xs) (n - 1) ≡ Some (get_or (x ∷ xs) (n - 1) x) =
    slice_get-get_or (x ∷ xs) (n - 1) x (omega (arith, count)) in
    let both : None ≡ Some (get_or (x ∷ xs) (n - 1) x) = sym e ∙ found in
    cc

module _ {A C : Type 0} (f : A → C) (xs : List A) (n : ℕ) (y : C) (ys : List C) (count : n ≡ length xs) (inner : Innermost f xs y ys) where
  pub last_item : (d : A) → d ≡ get_or xs (n - 1) d → f d ≡ y
  last_item d e = ap f (e ∙ at_end xs inner.front inner.last n count inner.is d) ∙ inner.last_is

  -- another one in its place
  pub last_set : (w : A) → reverse (map f (slice_set xs (n - 1) w)) ≡ f w ∷ ys
  last_set w =
      let place : n - 1 ≡ length inner.front = omega (arith, count, ap length inner.is, length-append inner.front (inner.last ∷ [])) in
      ap (λ l. reverse (map f l)) (ap (λ l. slice_set l (n - 1) w) inner.is
      ∙ (ap (λ i. slice_set (inner.front ++ inner.last ∷ []) i w) place ∙ set-append_seam inner.front inner.last [] w))
      ∙ (push_block f inner.front w refl ∙ ap (λ bs. f w ∷ bs) inner.around_is)

-- the innermost block ends, or a part of it
module _ {F T P B : Type 0} (source : List ℕ) (t : token.Tag) (b innermost : Open F T P B) (blocks around : List (Open F T P B))
    (nodes : List (NodeShape F T B)) where
  pub ended_ok : (after : List (NodeShape F T B)) → innermost ∷ around ≡ b ∷ blocks → closed source t innermost nodes ≡ Ok after
      → ok_then (closed source t b nodes) (λ ns. Ok (among blocks ns)) ≡ Ok (among around after)
  ended_ok after same h =
      let is : b ≡ innermost = cc in
      let others : blocks ≡ around = cc in
      ap (λ x. ok_then (closed source t x nodes) (λ ns. Ok (among blocks ns))) is
      ∙ (ap (λ r. ok_then r (λ ns. Ok (among blocks ns))) h ∙ ap (λ bs. Ok (among bs after)) others)

  pub ended_err : (told : Option Refusal) → innermost ∷ around ≡ b ∷ blocks → IfSome told (λ r. closed source t innermost nodes ≡ Err r)
      → IfSome told (λ r. ok_then {B = State F T P B} (closed source t b nodes) (λ ns. Ok (among blocks ns)) ≡ Err r)
  ended_err told same h =
      let is : b ≡ innermost = cc in
      then_err told _ (closed source t innermost nodes) (λ ns. Ok (among blocks ns))
      (ap (λ x. ok_then (closed source t x nodes) (λ ns. Ok (among blocks ns))) is) h

  pub parted_ok : (part : Open F T P B) (bs : List (Open F T P B)) (ns : List (NodeShape F T B)) → innermost ≡ b → bs ≡ part ∷ blocks
      → ns ≡ [] → parted source t innermost nodes ≡ Ok part
      → ok_then (parted source t b nodes) (λ p. Ok (among (p ∷ blocks) [])) ≡ Ok (among bs ns)
  parted_ok part bs ns is others none h =
      ap (λ x. ok_then (parted source t x nodes) (λ p. Ok (among (p ∷ blocks) []))) (sym is)
      ∙ (ap (λ r. ok_then r (λ p. Ok (among (p ∷ blocks) []))) h
      ∙ (ap (λ l. Ok (among l [])) (sym others) ∙ ap (λ l. Ok (among bs l)) (sym none)))

  pub parted_err : (told : Option Refusal) → innermost ≡ b → IfSome told (λ r. parted source t innermost nodes ≡ Err r)
      → IfSome told (λ r. ok_then {B = State F T P B} (parted source t b nodes) (λ p. Ok (among (p ∷ blocks) [])) ≡ Err r)
  parted_err told is h =
      then_err told _ (parted source t innermost nodes) (λ p. Ok (among (p ∷ blocks) []))
      (ap (λ x. ok_then (parted source t x nodes) (λ p. Ok (among (p ∷ blocks) []))) (sym is)) h
