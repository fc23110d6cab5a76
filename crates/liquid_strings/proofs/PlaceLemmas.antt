-- Places of a needle in a string, where the string may be cut.
use Rattle.std.proofs.Common.{
  ◌≡◌,
  ℕ,
  zero,
  suc,
  ◌+◌,
  ◌-◌,
  ◌<◌,
  ◌≤◌,
  List,
  [],
  ◌∷◌,
  ◌++◌,
  Some,
  length,
  drop,
  sym,
  ap,
  subst,
  ◌∙◌,
  arith,
  append_assoc,
  get_or,
  ⊎_elim,
}
use Rattle.std.proofs.lemmas.Bool.{cases_Bool, cond-true, cond-false, cases_eq}
use Rattle.std.specs.Char.{encode_utf8}
use Rattle.std.specs.Str.{encode_utf8_all, IsUtf8, IsCharBoundary}
use Rattle.std.proofs.lemmas.Str.{IsUtf8-past_char, IsUtf8-drop, IsCharBoundary-from_drop, IsCharBoundary-start, IsCharBoundary-end}
use Rattle.memchr.specs.Find.{OccursAt, FindsNeedle, FindsLastNeedle, occurs_at, match_len, matches, matches_from}
use Rattle.memchr.proofs.lemmas.MatchLemmas.{OccursAt-true, OccursAt-split, matches_from-skip}

-- what follows a string in a string is a string
pub after_text : (cs ys : List ℕ) → IsUtf8 (encode_utf8_all cs ++ ys) → IsUtf8 ys
after_text [] ys u = u
after_text (c ∷ cs) ys u = after_text cs ys
    (IsUtf8-past_char _ (encode_utf8_all cs ++ ys) c u (append_assoc (encode_utf8 c) (encode_utf8_all cs) ys))

module _ (hay needle : List ℕ) (u : IsUtf8 hay) (v : IsUtf8 needle) where
  -- a needle that is not empty begins where the string may be cut
  pub cut_before : (at : ℕ) → 0 < length needle → OccursAt hay needle at → IsCharBoundary hay at
  cut_before at more occurs =
      let fits = occurs.fits in
      let first : get_or hay (at + 0) 0 ≡ get_or needle 0 0 = occurs.reads 0 more in
      let same : at + 0 ≡ at = omega arith in
      let first : get_or hay at 0 ≡ get_or needle 0 0 = ap (λ k. get_or hay k 0) (sym same) ∙ first in
      let start = IsCharBoundary-start needle v in
      (omega arith, λ within high. subst (λ b. 192 ≤ b) (sym first) (start.1 more (subst (λ b. 128 ≤ b) first high)))

  -- .. and ends where it may be cut, if it begins there
  pub cut_after : (at : ℕ) → IsCharBoundary hay at → OccursAt hay needle at → IsCharBoundary hay (at + length needle)
  cut_after at cut occurs =
      let rest = drop (at + length needle) hay in
      let fits = occurs.fits in
      let split : drop at hay ≡ needle ++ rest = OccursAt-split hay needle at occurs in
      let whole : IsUtf8 (needle ++ rest) = subst IsUtf8 split (IsUtf8-drop hay at u cut) in
      IsCharBoundary-from_drop hay (at + length needle) (omega arith)
      (after_text v.0 rest (subst (λ n. IsUtf8 (n ++ rest)) (sym v.1.1) whole))

  -- the first place and the last place of a needle, empty or not, are where the string may be cut
  pub cut_at_first : (at : ℕ) → FindsNeedle hay needle 0 (Some at) → IsCharBoundary hay at
  cut_at_first at found = ⊎_elim
      (λ none.
      let least : at ≡ 0 = ⊎_elim (λ same. same) (λ other. absurd (found.0.before 0 (omega arith) (omega arith) (record {
        fits = omega arith;
        reads = λ j l. absurd (omega arith);
      }))) (cases_eq at 0) in
      subst (IsCharBoundary hay) (sym least) (IsCharBoundary-start hay u))
      (λ some. cut_before at (omega arith) found.1)
      (cases_eq (length needle) 0)

  pub cut_at_last : (at : ℕ) → FindsLastNeedle hay needle (Some at) → IsCharBoundary hay at
  cut_at_last at found = ⊎_elim
      (λ none.
      let high = found.0.high in
      let most : at ≡ length hay = ⊎_elim (λ same. same) (λ other. absurd (found.0.after (length hay) (omega arith) (omega arith) (record {
        fits = omega arith;
        reads = λ j l. absurd (omega arith);
      }))) (cases_eq at (length hay)) in
      subst (IsCharBoundary hay) (sym most) (IsCharBoundary-end hay))
      (λ some. cut_before at (omega arith) found.1)
      (cases_eq (length needle) 0)

-- the first of the matches from a place on, and those that follow it
pub record IsFirstMatch (hay needle : List ℕ) (i at : ℕ) (rest : List ℕ) : Type 0 where
  pub low : i ≤ at
  pub occurs : OccursAt hay needle at
  pub others : rest ≡ matches hay needle (at + length needle)

module _ (hay needle : List ℕ) (more : 0 < length needle) where
  first_match_from : (n i at : ℕ) (rest : List ℕ) → i + n ≡ length hay + 1 → matches_from hay needle 0 i n ≡ at ∷ rest
      → IsFirstMatch hay needle i at rest
  unfolding matches_from
  first_match_from zero i at rest fit e = absurd (cc)
  first_match_from (suc n) i at rest fit e = ⊎_elim
      (λ yes.
      let occurs = OccursAt-true hay needle i yes in
      let width : match_len needle ≡ length needle = omega arith in
      let hit : i ∷ matches_from hay needle (match_len needle - 1) (i + 1) n ≡ at ∷ rest = sym (cond-true _ _ _ yes) ∙ e in
      let here : i ≡ at = cc in
      let those : matches_from hay needle (match_len needle - 1) (i + 1) n ≡ rest = cc in
      let fits = occurs.fits in
      let place : i + 1 + (match_len needle - 1) ≡ at + length needle = omega arith in
      let count : n - (match_len needle - 1) ≡ length hay + 1 - (at + length needle) = omega arith in
      record {
        low = omega arith;
        occurs = subst (OccursAt hay needle) here occurs;
        others = sym those ∙ matches_from-skip hay needle (match_len needle - 1) (i + 1) n
            ∙ ap (λ k. matches_from hay needle 0 k (n - (match_len needle - 1))) place
            ∙ ap (matches_from hay needle 0 (at + length needle)) count;
      })
      (λ no.
      let later = first_match_from n (i + 1) at rest (omega arith) (sym (cond-false _ _ _ no) ∙ e) in
      record { low = omega (arith, later.low); occurs = later.occurs; others = later.others })
      (cases_Bool (occurs_at hay needle i))

  pub first_match : (i at : ℕ) (rest : List ℕ) → i ≤ length hay → matches hay needle i ≡ at ∷ rest → IsFirstMatch hay needle i at rest
  first_match i at rest le e = first_match_from (length hay + 1 - i) i at rest (omega arith) e
