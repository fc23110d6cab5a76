-- A string cut at a character.
use Rattle.std.proofs.Common.{
  ◌≡◌,
  ℕ,
  ◌+◌,
  ◌-◌,
  ◌≤◌,
  List,
  [],
  ◌∷◌,
  ◌++◌,
  ◌&&◌,
  ◌||◌,
  true,
  not,
  eqb,
  ltb,
  map,
  length,
  take,
  drop,
  refl,
  sym,
  ap,
  subst,
  ◌∙◌,
  arith,
  take-append-drop,
  drop-drop,
  length-append,
  length-drop,
}
use Rattle.std.proofs.Math.Seq.{take-append_seam}
use Rattle.std.proofs.lemmas.List.{nil_from_length}
use Rattle.std.proofs.lemmas.Str.{chars_from_encodes, encodes-append, encodes-chars, IsCharBoundary-at_seam}
use Rattle.std.specs.Str.{chars, encode_utf8_all, IsUtf8, IsCharBoundary}
use Rattle.std.specs.Prelude.{codes}
use Rattle.std.specs.List.{join_by}
use Rattle.std.specs.Str.{trim_end}
use Rattle.std.proofs.lemmas.Bool.{cond-true}
use Rattle.std.proofs.lemmas.List.{length-map}
use Rattle.std.specs.List.{take-map}
use Rattle.liquid_strings.specs.meaning.Truncation.{goes_on, truncated_at}
use Rattle.liquid_strings.specs.meaning.Split.{words}
use Rattle.liquid_strings.proofs.PieceLemmas.{join_by_view}
use Rattle.liquid_strings.proofs.PlaceLemmas.{after_text}

-- the string is cut before what is left after that many characters
pub record CutsAt (bs back : List ℕ) (n : ℕ) : Type 0 where
  pub fits : length back ≤ length bs
  pub cut : IsCharBoundary bs (length bs - length back)
  pub front : take (length bs - length back) bs ≡ encode_utf8_all (take n (chars bs))

pub cuts_at : (bs back : List ℕ) (n : ℕ) → IsUtf8 bs → back ≡ encode_utf8_all (drop n (chars bs)) → CutsAt bs back n
cuts_at bs back n u e =
    let front = encode_utf8_all (take n (chars bs)) in
    let split : bs ≡ front ++ back =
    sym (encodes-chars bs u) ∙ ap encode_utf8_all (sym (take-append-drop n (chars bs)))
    ∙ encodes-append (take n (chars bs)) (drop n (chars bs)) ∙ ap (λ l. front ++ l) (sym e) in
    let whole : length bs ≡ length front + length back = ap length split ∙ length-append front back in
    let len : length bs - length back ≡ length front = omega arith in
    let text : IsUtf8 back = after_text (take n (chars bs)) back (subst IsUtf8 split u) in
    record {
      fits = omega arith;
      cut = subst (IsCharBoundary bs) (sym len) (IsCharBoundary-at_seam bs front back split text);
      front = ap (λ k. take k bs) len ∙ ap (take (length front)) split ∙ take-append_seam front back;
    }

-- what is left of a list one place further, and what follows if nothing is left
pub drop_next : (xs ys : List ℕ) (x i : ℕ) → x ∷ ys ≡ drop i xs → ys ≡ drop (i + 1) xs
drop_next xs ys x i e = ap (drop 1) e ∙ drop-drop 1 i xs

pub nothing_later : (xs : List ℕ) (i j : ℕ) → [] ≡ drop i xs → i ≤ j → [] ≡ drop j xs
nothing_later xs i j e le =
    let none : length (drop j xs) ≡ 0 = omega (arith, ap length e, length-drop i xs, length-drop j xs) in
    sym (nil_from_length (drop j xs) none)

-- a string that continues after its words up to a count
pub cut_words : {X : Type 0} (f : X → List ℕ) (xs : List X) (n : ℕ) (ending text : List ℕ) → map f xs ≡ words text
    → true ≡ (ltb n (length xs) || (eqb (length xs) n && not (eqb (length (trim_end text)) (length text))))
    → join_by f (codes " ") (take n xs) ++ ending ≡ truncated_at n ending text
cut_words f xs n ending text all more =
    let count : length (words text) ≡ length xs = ap length (sym all) ∙ length-map xs f in
    let goes : goes_on n text ≡ true = rw count (sym more) in
    ap (λ l. l ++ ending) (join_by_view f (codes " ") (take n xs) ∙ ap (join_by (λ word. word) (codes " "))
    (sym (take-map f n xs) ∙ ap (take n) all))
    ∙ sym (cond-true _ _ _ goes)

-- the characters of what is left after that many
pub chars_of_rest : (bs : List ℕ) (n : ℕ) → IsUtf8 bs → chars (encode_utf8_all (drop n (chars bs))) ≡ drop n (chars bs)
chars_of_rest bs n u =
    let rest = encode_utf8_all (drop n (chars bs)) in
    let split : bs ≡ encode_utf8_all (take n (chars bs)) ++ rest =
    sym (encodes-chars bs u) ∙ ap encode_utf8_all (sym (take-append-drop n (chars bs)))
    ∙ encodes-append (take n (chars bs)) (drop n (chars bs)) in
    sym (chars_from_encodes (drop n (chars bs)) rest (after_text (take n (chars bs)) rest (subst IsUtf8 split u)) refl)
