-- No tag is left in a string whose tags were left out.
use Rattle.std.proofs.Common.{
  ◌≡◌,
  ◌≢◌,
  ℕ,
  zero,
  suc,
  ◌+◌,
  ◌-◌,
  ◌<◌,
  Bool,
  true,
  false,
  cond,
  List,
  [],
  ◌∷◌,
  ◌++◌,
  length,
  drop,
  get_or,
  refl,
  ap,
  subst,
  ◌∙◌,
  arith,
  eqb,
  Option,
  Some,
  None,
  option_map,
}
use Rattle.std.specs.List.{All}
use Rattle.std.proofs.lemmas.Bool.Decides.{nat_tests}
use Rattle.std.proofs.lemmas.List.Elements.{All-nil, All-cons, All-head, All-tail, All-append}
use Rattle.std.proofs.Math.Seq.{drop-cons, drop-length}
use Rattle.memchr.specs.Find.{first_of, matches, matches_from}
use Rattle.liquid_strings.specs.laws.Stripped.{HasNoTag}
use Rattle.liquid_strings.specs.meaning.Tags.{
  byte_kept,
  first_part,
  first_some,
  stripped,
  tags,
  then_passed,
  without,
  without_after,
  blocks,
}
use Rattle.liquid_strings.proofs.UrlLemmas.{occurs_one}

-- a byte that has no first place is nowhere
module _ (c : ℕ) (text : List ℕ) where
  abbrev Other : ℕ → Type 0
  Other b = b ≢ c

  one_more : (n i : ℕ) → i < length text → (first_of (matches_from text (c ∷ []) 0 (i + 1) n) ≡ None → All Other (drop (i + 1) text))
      → (b : Bool) → eqb (get_or text i 0) c ≡ b
      → first_of (cond b (i ∷ matches_from text (c ∷ []) 0 (i + 1) n) (matches_from text (c ∷ []) 0 (i + 1) n)) ≡ None
      → All Other (drop i text)
  unfolding first_of
  one_more n i small rest true t e = absurd (cc)
  one_more n i small rest false t e =
      let next : i + 1 ≡ suc i = omega arith in
      let all : All Other (drop (suc i) text) = subst (λ (k : ℕ). All Other (drop k text)) next (rest e) in
      let other : get_or text i 0 ≢ c = grind (arith, nat_tests) in
      rw (drop-cons text i 0 small) (All-cons Other (get_or text i 0) (drop (suc i) text) other all)

  none_from : (n i : ℕ) → i + n ≡ length text → first_of (matches_from text (c ∷ []) 0 i (suc n)) ≡ None → All Other (drop i text)
  unfolding matches_from
  none_from zero i e none =
      let end : i ≡ length text = omega arith in
      let nothing : drop i text ≡ [] = ap (λ k. drop k text) end ∙ drop-length text in
      rw nothing (All-nil Other)
  none_from (suc n) i e none =
      let small : i < length text = omega arith in
      one_more (suc n) i small (none_from n (i + 1) (omega arith)) (eqb (get_or text i 0) c) refl
      (rw (occurs_one c text i small) at none)

  pub nowhere : first_of (matches text (c ∷ []) 0) ≡ None → All Other text
  nowhere none =
      let count : length text + 1 - 0 ≡ suc (length text) = omega arith in
      none_from (length text) 0 (omega arith) (rw count at none)

-- what holds of all bytes holds of those that are left
kept_all : (P : ℕ → Type 0) (o : Option ℕ) (b : ℕ) → P b → All P (byte_kept o b)
kept_all P None b p = All-cons P b [] p (All-nil P)
kept_all P (Some n) b p = All-nil P

all_left : (P : ℕ → Type 0) (kinds : List (List ℕ × List ℕ)) (n : ℕ) (bs : List ℕ) → All P bs → All P (without_after kinds n bs)
all_left P kinds n [] all = All-nil P
all_left P kinds zero (b ∷ bs) all =
    All-append P (byte_kept (first_part kinds (b ∷ bs)) b) (without_after kinds (then_passed (first_part kinds (b ∷ bs))) bs)
    (kept_all P (first_part kinds (b ∷ bs)) b (All-head P b bs all))
    (all_left P kinds (then_passed (first_part kinds (b ∷ bs))) bs (All-tail P b bs all))
all_left P kinds (suc n) (b ∷ bs) all = all_left P kinds n bs (All-tail P b bs all)

-- after an opener that begins no tag there is no closer
no_value : (f : ℕ → ℕ) (o : Option ℕ) → first_some (option_map f o) None ≡ None → o ≡ None
no_value f None e = refl
no_value f (Some n) e = absurd (cc)

unclosed : (bs : List ℕ) → first_part tags (60 ∷ bs) ≡ None → All (λ c. c ≢ 62) bs
unclosed bs e = nowhere 62 bs (no_value (λ at. 1 + at + 1) (first_of (matches bs (62 ∷ []) 0)) e)

after_opener : (b : ℕ) (bs : List ℕ) → first_part tags (b ∷ bs) ≡ None → b ≡ 60 → All (λ c. c ≢ 62) bs
after_opener b bs e is = unclosed bs (subst (λ (x : ℕ). first_part tags (x ∷ bs) ≡ None) is e)

by_part : (b : ℕ) (bs : List ℕ) → ((n : ℕ) → HasNoTag (without_after tags n bs)) → (o : Option ℕ) → first_part tags (b ∷ bs) ≡ o
    → HasNoTag (byte_kept o b ++ without_after tags (then_passed o) bs)
by_part b bs rest None e = (λ is. all_left (λ c. c ≢ 62) tags 0 bs (after_opener b bs e is), rest 0)
by_part b bs rest (Some n) e = rest (n - 1)

no_tag_left : (bs : List ℕ) (n : ℕ) → HasNoTag (without_after tags n bs)
no_tag_left [] n = tt
no_tag_left (b ∷ bs) zero = by_part b bs (no_tag_left bs) (first_part tags (b ∷ bs)) refl
no_tag_left (b ∷ bs) (suc n) = no_tag_left bs n

pub no_tag : (text : List ℕ) → HasNoTag (stripped text)
no_tag text = no_tag_left (without blocks text) 0
