-- Texts in parameters.
use Rattle.std.proofs.Common.{
  ◌≡◌,
  ℕ,
  zero,
  suc,
  ◌+◌,
  ◌-◌,
  ◌<◌,
  ◌≤◌,
  Bool,
  true,
  false,
  cond,
  not,
  ◌&&◌,
  ◌==◌,
  List,
  [],
  ◌∷◌,
  ◌++◌,
  Option,
  Some,
  None,
  length,
  take,
  drop,
  get_or,
  IsUtf8,
  refl,
  sym,
  ap,
  subst,
  ◌∙◌,
  arith,
  inl,
  inr,
  append_assoc,
  eqb-true,
  length-drop,
  get_or-drop,
  take-append-drop,
  drop_of_length-le,
}
use Rattle.std.specs.List.{prefix_len, slice_range}
use Rattle.std.specs.Option.{option_map, option_map_or, unwrap_or}
use Rattle.std.specs.Str.{IsCharBoundary, byte}
use Rattle.std.proofs.lemmas.Bool.{cases_lt}
use Rattle.std.proofs.lemmas.Bool.Decides.{nat_tests}
use Rattle.std.proofs.lemmas.List.{drop_more}
use Rattle.std.proofs.lemmas.List.Sums.{prefix_len-le-length, prefix_len_stops}
use Rattle.std.proofs.lemmas.Str.{IsCharBoundary-before_ascii, IsCharBoundary-end}
use Rattle.jekyll_source.specs.meaning.Parameters.{
  from_quote,
  quoted_len,
  split_at_quote,
  split_quoted,
  unescaped,
  unescaped_in,
  unescaped_text,
}
use Rattle.jekyll_source.specs.meaning.Splits.{Parts, is_quote}
use Rattle.jekyll_source.specs.declared.literals.Quote.{Quote}
use Rattle.jekyll_source.specs.declared.literals.Quote.TheVariants.{Double, Single}
use Rattle.jekyll_source.specs.steps.Parts.{quote_byte}
use Rattle.jekyll_source.proofs.NameLemmas.{past}
use Rattle.jekyll_source.proofs.Shorter.{drop_shorter}

quote_is_ascii : (b : ℕ) → not (is_quote b) ≡ false → b < 128
quote_is_ascii b e = grind (arith, nat_tests)

-- a text may be cut before its first quote
pub cuts_unquoted : (text : List ℕ) → IsCharBoundary text (prefix_len (λ b. not (is_quote b)) text)
cuts_unquoted text = elim (cases_lt (prefix_len (λ b. not (is_quote b)) text) (length text)) [
  | inl within ↦ IsCharBoundary-before_ascii text _ within (quote_is_ascii _ (prefix_len_stops (λ b. not (is_quote b)) text 0 within))
  | inr past ↦ subst (IsCharBoundary text) (omega (arith, prefix_len-le-length (λ b. not (is_quote b)) text)) (IsCharBoundary-end text)
]

-- one turn at a byte that doesn't end a text
pub quoted_turn : (quote : ℕ) (text : List ℕ) (whole : Option ℕ) (at : ℕ) (escaped next : Bool) → at < length text
    → (not escaped && get_or text at 0 == quote) ≡ false → next ≡ (not escaped && get_or text at 0 == byte "\\")
    → whole ≡ option_map (λ n. at + n) (quoted_len quote escaped (drop at text))
    → whole ≡ option_map (λ n. (at + 1) + n) (quoted_len quote next (drop (at + 1) text))
quoted_turn quote text whole at true next within goes is held =
    rw is (held ∙ ap (λ s. option_map (λ n. at + n) (quoted_len quote true s)) (drop_more text at 0 within)
    ∙ past at (quoted_len quote false (drop (at + 1) text)))
quoted_turn quote text whole at false next within goes is held =
    rw is (held ∙ ap (λ s. option_map (λ n. at + n) (quoted_len quote false s)) (drop_more text at 0 within)
    ∙ ap (λ t. option_map (λ n. at + n) (cond t (Some 0) (option_map suc
    (quoted_len quote (get_or text at 0 == byte "\\") (drop (at + 1) text))))) goes
    ∙ past at (quoted_len quote (get_or text at 0 == byte "\\") (drop (at + 1) text)))

-- .. and at one that does
pub quoted_ends : (quote : ℕ) (text : List ℕ) (whole : Option ℕ) (at : ℕ) (escaped : Bool) → at < length text
    → (not escaped && get_or text at 0 == quote) ≡ true → whole ≡ option_map (λ n. at + n) (quoted_len quote escaped (drop at text))
    → whole ≡ Some at
quoted_ends quote text whole at true within ends held = absurd (cc)
quoted_ends quote text whole at false within ends held =
    let same : at + 0 ≡ at = omega arith in
    held ∙ ap (λ s. option_map (λ n. at + n) (quoted_len quote false s)) (drop_more text at 0 within)
    ∙ ap (λ t. option_map (λ n. at + n) (cond t (Some 0) (option_map suc
    (quoted_len quote (get_or text at 0 == byte "\\") (drop (at + 1) text))))) ends
    ∙ ap Some same

pub end_is_quote : (escaped : Bool) (b quote : ℕ) → (not escaped && b == quote) ≡ true → b ≡ quote
end_is_quote true b quote e = absurd (cc)
end_is_quote false b quote e = eqb-true b quote e

pub unended : (quote : ℕ) (text : List ℕ) (whole : Option ℕ) (at : ℕ) (escaped : Bool) → length text ≤ at
    → whole ≡ option_map (λ n. at + n) (quoted_len quote escaped (drop at text)) → whole ≡ None
unended quote text whole at escaped low held =
    held ∙ ap (λ s. option_map (λ n. at + n) (quoted_len quote escaped s)) (drop_of_length-le text low) ∙ go escaped
  where
    go : (t : Bool) → option_map (λ n. at + n) (quoted_len quote t []) ≡ None
    go true = refl
    go false = refl

-- a text that was split around the quote that was found
pub some_quoted : (text front back : List ℕ) (o : Option ℕ) (n : ℕ) → o ≡ Some n → front ≡ slice_range text 0 n → back ≡ drop (n + 1) text
    → (let p : Option Parts = Some (front, back) in p ≡ option_map (λ k. (take k text, drop (k + 1) text)) o)
some_quoted text front back o n found before after =
    let whole : n - 0 ≡ n = omega arith in
    let first : front ≡ take n text = before ∙ ap (λ k. take k text) whole in rw (first, after, found) refl

pub none_quoted : (text : List ℕ) (o : Option ℕ) → o ≡ None
    → (let p : Option Parts = None in p ≡ option_map (λ k. (take k text, drop (k + 1) text)) o)
none_quoted text o found = rw found refl

pub end_is_ascii : (escaped : Bool) (b : ℕ) (quote : Quote) → (not escaped && b == quote_byte quote) ≡ true → b < 128
end_is_ascii escaped b Double e = let same : b ≡ 34 = end_is_quote escaped b 34 e in omega arith
end_is_ascii escaped b Single e = let same : b ≡ 39 = end_is_quote escaped b 39 e in omega arith

-- what follows a text in quotes is shorter
quoted_shorter : (quote : ℕ) (text : List ℕ) (p : Parts) → split_quoted quote text ≡ Some p → length p.1 ≤ length text
quoted_shorter quote text p = go (quoted_len quote false text)
  where
    go : (o : Option ℕ) → (let r : Option Parts = option_map (λ n. (take n text, drop (n + 1) text)) o in r ≡ Some p)
        → length p.1 ≤ length text
    go None e = absurd (cc)
    go (Some n) e =
        let same : drop (n + 1) text ≡ p.1 = ap (λ o. (unwrap_or o p).1) e in omega (arith, ap length same, drop_shorter (n + 1) text)

-- what goes on after a quote depends on shorter texts only
from_same : (f g : List ℕ → List ℕ) (back : List ℕ) → ((t : List ℕ) → length t < length back → f t ≡ g t)
    → from_quote f back ≡ from_quote g back
from_same f g [] same = refl
from_same f g (quote ∷ bs) same = go (split_quoted quote bs) refl
  where
    go : (o : Option Parts) → split_quoted quote bs ≡ o
        → option_map_or (λ p. unescaped_text quote p.0 ++ f p.1) o (quote ∷ bs)
        ≡ option_map_or (λ p. unescaped_text quote p.0 ++ g p.1) o (quote ∷ bs)
    go None e = refl
    go (Some p) e =
        let less = quoted_shorter quote bs p e in ap (λ l. unescaped_text quote p.0 ++ l) (same p.1 (omega arith))

back_shorter : (text : List ℕ) → length (split_at_quote text).1 ≤ length text
back_shorter text = drop_shorter (prefix_len (λ b. not (is_quote b)) text) text

-- as many texts as bytes are all texts
all_unescaped : (n m : ℕ) (text : List ℕ) → length text ≤ n → length text ≤ m → unescaped_in n text ≡ unescaped_in m text
all_unescaped zero zero text h k = refl
all_unescaped zero (suc m) [] h k = refl
all_unescaped (suc n) zero [] h k = refl
all_unescaped zero (suc m) (b ∷ bs) h k = absurd (omega arith)
all_unescaped (suc n) zero (b ∷ bs) h k = absurd (omega arith)
all_unescaped (suc n) (suc m) text h k =
    let less = back_shorter text in
    ap (λ l. (split_at_quote text).0 ++ l) (from_same (λ t. unescaped_in n t) (λ t. unescaped_in m t) (split_at_quote text).1
    (λ t shorter. all_unescaped n m t (omega arith) (omega arith)))

-- the text up to the first quote, and what goes on there
pub next_unescaped : (text : List ℕ) → unescaped text ≡ (split_at_quote text).0 ++ from_quote (λ t. unescaped t) (split_at_quote text).1
next_unescaped [] = refl
next_unescaped (b ∷ bs) =
    let less = back_shorter (b ∷ bs) in
    ap (λ l. (split_at_quote (b ∷ bs)).0 ++ l) (from_same (λ t. unescaped_in (length bs) t) (λ t. unescaped t) (split_at_quote (b ∷ bs)).1
    (λ t shorter. all_unescaped (length bs) (length t) t (omega arith) (omega arith)))

whole_text : (text : List ℕ) → (split_at_quote text).0 ++ (split_at_quote text).1 ≡ text
whole_text text = take-append-drop (prefix_len (λ b. not (is_quote b)) text) text

not_false : (t : Bool) → not t ≡ false → t ≡ true
not_false true e = refl
not_false false e = absurd (cc)

module _ (text front back : List ℕ) (is : (let p : Parts = (front, back) in p ≡ split_at_quote text)) where
  front_is : front ≡ (split_at_quote text).0
  front_is = ap (λ p. p.0) is

  back_is : back ≡ (split_at_quote text).1
  back_is = ap (λ p. p.1) is

  -- without a quote a text stays
  pub no_quote : is_quote (get_or back 0 0) ≡ false → unescaped text ≡ text
  no_quote none = next_unescaped text
      ∙ ap (λ l. (split_at_quote text).0 ++ l) (go (split_at_quote text).1 (rw (sym back_is) none) ends) ∙ whole_text text
    where
      ends : 0 < length (split_at_quote text).1 → is_quote (get_or (split_at_quote text).1 0 0) ≡ true
      ends more =
          let n = prefix_len (λ b. not (is_quote b)) text in
          let within : n < length text = omega (arith, length-drop n text) in
          let same : n + 0 ≡ n = omega arith in
          let stop : not (is_quote (get_or text n 0)) ≡ false = prefix_len_stops (λ b. not (is_quote b)) text 0 within in
          ap is_quote (get_or-drop n text 0 0 ∙ ap (λ k. get_or text k 0) same) ∙ not_false (is_quote (get_or text n 0)) stop

      go : (rest : List ℕ) → is_quote (get_or rest 0 0) ≡ false → (0 < length rest → is_quote (get_or rest 0 0) ≡ true)
          → from_quote (λ t. unescaped t) rest ≡ rest
      go [] e more = refl
      go (b ∷ bs) e more = absurd (cc (more (omega arith), e))

  module _ (quote : ℕ) (after : List ℕ) (begins : back ≡ quote ∷ after) where
    starts : unescaped text ≡ front
        ++ option_map_or (λ p. unescaped_text quote p.0 ++ unescaped p.1) (split_quoted quote after) (quote ∷ after)
    starts =
        next_unescaped text ∙ ap (λ l. l ++ from_quote (λ t. unescaped t) (split_at_quote text).1) (sym front_is)
        ∙ ap (λ l. front ++ from_quote (λ t. unescaped t) l) (sym back_is ∙ begins)

    -- .. and so does one whose first quote has no end
    pub no_end : (let o : Option Parts = None in o ≡ split_quoted quote after) → unescaped text ≡ text
    no_end none =
        starts ∙ ap (λ o. front ++ option_map_or (λ p. unescaped_text quote p.0 ++ unescaped p.1) o (quote ∷ after)) (sym none)
        ∙ ap (λ l. front ++ l) (sym begins) ∙ ap (λ l. l ++ back) front_is ∙ ap (λ l. (split_at_quote text).0 ++ l) back_is
        ∙ whole_text text

    -- the first text in quotes, and what goes on after it
    pub first_text : (inner rest : List ℕ) → (let o : Option Parts = Some (inner, rest) in o ≡ split_quoted quote after)
        → unescaped text ≡ front ++ (unescaped_text quote inner ++ unescaped rest)
    first_text inner rest some =
        starts ∙ ap (λ o. front ++ option_map_or (λ p. unescaped_text quote p.0 ++ unescaped p.1) o (quote ∷ after)) (sym some)

-- one turn over the texts in parameters
pub text_turn : (out first new front inner rest whole text : List ℕ) → text ≡ front ++ (inner ++ rest) → first ≡ out ++ front
    → new ≡ first ++ inner → out ++ text ≡ whole → new ++ rest ≡ whole
text_turn out first new front inner rest whole text is begun grown held =
    rw (grown, begun) (append_assoc (out ++ front) inner rest ∙ append_assoc out front (inner ++ rest) ∙ ap (λ l. out ++ l) (sym is) ∙ held)

-- a literal that was appended, or the text as it was
pub literal_pushed : (out mid other : List ℕ) (o : Option (List ℕ))
    → (let r : Option (List ℕ) = Some mid in r ≡ option_map (λ l. out ++ l) o)
    → mid ≡ out ++ unwrap_or o other
literal_pushed out mid other None e = absurd (cc)
literal_pushed out mid other (Some l) e = cc

pub other_pushed : (out mid new other : List ℕ) (o : Option (List ℕ)) → (let r : Option (List ℕ) = None in r ≡ option_map (λ l. out ++ l) o)
    → mid ≡ out → new ≡ mid ++ other → new ≡ out ++ unwrap_or o other
other_pushed out mid new other None e same grown = rw (grown, same) refl
other_pushed out mid new other (Some l) e same grown = absurd (cc)
