-- Where a text may be cut.
use Rattle.std.proofs.Common.{
  ◌≡◌,
  ℕ,
  zero,
  suc,
  ◌+◌,
  ◌-◌,
  ◌<◌,
  ◌≤◌,
  true,
  false,
  cond,
  ◌==◌,
  List,
  length,
  get_or,
  IsUtf8,
  refl,
  Bool,
  Option,
  Some,
  None,
  eqb-true,
  sym,
  ap,
  reverse,
  subst,
  ◌∙◌,
  add-one,
  arith,
}
use Rattle.std.proofs.lemmas.Bool.Decides.{nat_tests}
use Rattle.std.proofs.lemmas.List.{get_or-reverse, length-reverse}
use Rattle.std.proofs.lemmas.List.Sums.{prefix_len-le-length, prefix_len_passes}
use Rattle.std.proofs.lemmas.Str.{IsCharBoundary-start, IsCharBoundary-end, IsCharBoundary-before_ascii, IsCharBoundary-after_ascii}
use Rattle.std.specs.List.{prefix_len, suffix_len}
use Rattle.std.specs.Option.{IfSome}
use Rattle.std.specs.Str.{IsCharBoundary, byte}
use Rattle.memchr.specs.Find.{FindsNeedle}
use Rattle.liquid_strings.proofs.PlaceLemmas.{cut_after, cut_before}
use Rattle.jekyll_source.specs.declared.splits.ByteSet.{ByteSet}
use Rattle.jekyll_source.specs.declared.splits.ByteSet.TheVariants.{White, Blank, Word}
use Rattle.jekyll_source.specs.meaning.Splits.{dash_len, end_dash_len}
use Rattle.jekyll_source.specs.steps.Parts.{contains}

-- the bytes of a set are ASCII
pub set_is_ascii : (set : ByteSet) (b : ℕ) → contains set b ≡ true → b < 128
set_is_ascii White b e = grind (arith, nat_tests)
set_is_ascii Blank b e = grind (arith, nat_tests)
set_is_ascii Word b e = grind (arith, nat_tests)

module _ (set : ByteSet) (text : List ℕ) where
  -- a text may be cut inside of a run at its start
  pub cuts_run : IsUtf8 text → (n : ℕ) → n ≤ prefix_len (contains set) text → IsCharBoundary text n
  cuts_run utf8 zero le = IsCharBoundary-start text utf8
  cuts_run utf8 (suc k) le =
      rw (← add-one) (IsCharBoundary-after_ascii text k utf8 (omega (arith, prefix_len-le-length (contains set) text))
      (set_is_ascii set _ (prefix_len_passes (contains set) text k 0 (omega arith))))

  -- .. and of one at its end
  pub cuts_end_run : (n : ℕ) → n ≤ suffix_len (contains set) text → IsCharBoundary text (length text - n)
  cuts_end_run zero le = let same : length text - 0
      ≡ length text = omega arith in subst (IsCharBoundary text) (sym same) (IsCharBoundary-end text)
  cuts_end_run (suc k) le =
      let fits : suffix_len (contains set) text ≤ length (reverse text) = prefix_len-le-length (contains set) (reverse text) in
      let within : suc k ≤ length text = omega (arith, length-reverse text) in
      let place : length text - 1 - k ≡ length text - suc k = omega arith in
      let there : get_or (reverse text) k 0 ≡ get_or text (length text - suc k) 0 =
      get_or-reverse text k 0 (omega arith) ∙ ap (λ i. get_or text i 0) place in
      IsCharBoundary-before_ascii text (length text - suc k) (omega arith)
      (subst (λ b. b < 128) there (set_is_ascii set _ (prefix_len_passes (contains set) (reverse text) k 0 (omega arith))))

-- a text may be cut after a dash at its start
pub cuts_dash : (text : List ℕ) → IsUtf8 text → dash_len text ≤ length text → IsCharBoundary text (dash_len text)
cuts_dash text utf8 = go (get_or text 0 0 == byte "-") refl
  where
    go : (t : Bool) → (get_or text 0 0 == byte "-") ≡ t → cond t 1 0 ≤ length text → IsCharBoundary text (cond t 1 0)
    go true e fits = IsCharBoundary-after_ascii text 0 utf8 fits (omega (arith, eqb-true (get_or text 0 0) (byte "-") e))
    go false e fits = IsCharBoundary-start text utf8

-- .. and before one at its end
pub cuts_end_dash : (text : List ℕ) → end_dash_len text ≤ length text → IsCharBoundary text (length text - end_dash_len text)
cuts_end_dash text = go (get_or text (length text - 1) 0 == byte "-") refl
  where
    go : (t : Bool) → (get_or text (length text - 1) 0 == byte "-") ≡ t → cond t 1 0 ≤ length text
        → IsCharBoundary text (length text - cond t 1 0)
    go true e fits = IsCharBoundary-before_ascii text (length text - 1) (omega arith)
        (omega (arith, eqb-true (get_or text (length text - 1) 0) (byte "-") e))
    go false e fits =
        let same : length text - 0 ≡ length text = omega arith in subst (IsCharBoundary text) (sym same) (IsCharBoundary-end text)

-- an answer of a search of a needle that is not empty, in a text
module _ (text needle : List ℕ) (more : 0 < length needle) (u : IsUtf8 text) (v : IsUtf8 needle) where
  pub cuts_start : (r : Option ℕ) → FindsNeedle text needle 0 r → IfSome r (λ at. IsCharBoundary text at)
  cuts_start None found = tt
  cuts_start (Some at) found = cut_before text needle u v at more found.1

  pub cuts_end : (r : Option ℕ) → FindsNeedle text needle 0 r → IfSome r (λ at. IsCharBoundary text (at + length needle))
  cuts_end None found = tt
  cuts_end (Some at) found = cut_after text needle u v at (cut_before text needle u v at more found.1) found.1

  pub fits_needle : (r : Option ℕ) → FindsNeedle text needle 0 r → IfSome r (λ at. at + length needle ≤ length text)
  fits_needle None found = tt
  fits_needle (Some at) found = found.1.fits
