-- Text up to the next brace.
use Rattle.std.proofs.Common.{
  ◌≡◌,
  ◌≢◌,
  ℕ,
  zero,
  suc,
  ◌+◌,
  ◌-◌,
  ◌<◌,
  ◌≤◌,
  Bool,
  true,
  false,
  not,
  ◌==◌,
  List,
  [],
  ◌∷◌,
  Option,
  Some,
  None,
  length,
  drop,
  get_or,
  refl,
  sym,
  ap,
  subst,
  ◌∙◌,
  arith,
  inl,
  inr,
  length-drop,
}
use Rattle.std.specs.List.{prefix_len}
use Rattle.std.specs.Str.{IsCharBoundary, byte}
use Rattle.std.proofs.lemmas.Bool.{cases_Bool, cases_lt}
use Rattle.std.proofs.lemmas.Bool.Decides.{nat_tests}
use Rattle.std.proofs.lemmas.List.Sums.{prefix_len-le-length, prefix_len_is, prefix_len_stops}
use Rattle.std.proofs.lemmas.Str.{IsCharBoundary-before_ascii, IsCharBoundary-end}
use Rattle.memchr.specs.Find.{IsFirstByte, is_byte}
use Rattle.jekyll_source.specs.meaning.Pieces.{plain_len}

no_brace_at : (b : ℕ) → ¬ (is_byte (byte "{") b ≡ true) → not (b == byte "{") ≡ true
no_brace_at b other = go (b == byte "{") refl
  where
    go : (t : Bool) → (b == byte "{") ≡ t → not t ≡ true
    go true e = absurd (other e)
    go false e = refl

-- as many bytes as are before the first brace
pub brace_found : (later : List ℕ) (at : ℕ) → IsFirstByte (is_byte (byte "{")) later (Some at)
    → prefix_len (λ b. not (b == byte "{")) later ≡ at
brace_found later at found =
    let high = found.0.high in
    prefix_len_is (λ b. not (b == byte "{")) later at 0 (omega arith)
    (λ k l. no_brace_at _ (found.0.before k (omega arith) l))
    (λ l. ap not found.1)

pub no_brace : (later : List ℕ) → IsFirstByte (is_byte (byte "{")) later None → prefix_len (λ b. not (b == byte "{")) later ≡ length later
no_brace later none =
    prefix_len_is (λ b. not (b == byte "{")) later (length later) 0 (omega arith)
    (λ k l. no_brace_at _ (none k (omega arith) l))
    (λ l. absurd (omega arith))

brace_is_ascii : (b : ℕ) → not (b == byte "{") ≡ false → b < 128
brace_is_ascii b e = grind (arith, nat_tests)

-- a text may be cut at the next brace
pub cuts_plain : (text : List ℕ) → text ≢ [] → IsCharBoundary text (plain_len text)
cuts_plain [] more = absurd (more refl)
cuts_plain (b ∷ bs) more =
    let n = prefix_len (λ c. not (c == byte "{")) bs in
    let place : 1 + n ≡ suc n = omega arith in
    elim (cases_lt n (length bs)) [
      | inl within ↦ subst (IsCharBoundary (b ∷ bs)) (sym place) (IsCharBoundary-before_ascii (b ∷ bs) (suc n) (omega arith)
          (brace_is_ascii _ (prefix_len_stops (λ c. not (c == byte "{")) bs 0 within)))
      | inr past ↦ subst (IsCharBoundary (b ∷ bs)) (omega (arith, prefix_len-le-length (λ c. not (c == byte "{")) bs))
          (IsCharBoundary-end (b ∷ bs))
    ]

pub has_bytes : (text : List ℕ) → text ≢ [] → 1 ≤ length text
has_bytes [] more = absurd (more refl)
has_bytes (b ∷ bs) more = omega arith
