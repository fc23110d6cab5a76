-- Runs of characters, read one by one.
use Rattle.std.proofs.Common.{
  ◌≡◌,
  ℕ,
  ◌+◌,
  ◌-◌,
  ◌<◌,
  ◌≤◌,
  suc,
  Bool,
  true,
  false,
  not,
  List,
  [],
  ◌∷◌,
  ◌++◌,
  ◌&&◌,
  eqb,
  length,
  take,
  get_or,
  refl,
  sym,
  ap,
  ◌∙◌,
  cond,
  arith,
}
use Rattle.std.proofs.Common.{add-zero, append_assoc, append-nil, eq-eqb}
use Rattle.std.proofs.lemmas.Bool.{cond-true, cond-false, ne_eqb}
use Rattle.std.specs.Char.{encode_utf8}
use Rattle.std.proofs.lemmas.Str.{chars_past_char, encodes-append, encodes-chars, length-le-encodes}
use Rattle.std.specs.Str.{chars, encode_utf8_all, IsUtf8}
use Rattle.liquid_jekyll.specs.meaning.text.Runs.{begins, run_count, with_runs_as, without_last}

-- 1 for a run that was counted and goes on
abbrev pub counted : Bool → (ℕ → Bool) → List ℕ → ℕ
counted in_run test cs = cond (in_run && begins test cs) 1 0

count_cases : (t i b : Bool) (r count total : ℕ)
    → count + (cond (t && not b) 1 0 + r) ≡ total + cond (i && t) 1 0
    → (count + cond (t && not i) 1 0) + r ≡ total + cond (t && b) 1 0
count_cases true true true r count total h = omega (arith, h)
count_cases true true false r count total h = omega (arith, h)
count_cases true false true r count total h = omega (arith, h)
count_cases true false false r count total h = omega (arith, h)
count_cases false true true r count total h = omega (arith, h)
count_cases false true false r count total h = omega (arith, h)
count_cases false false true r count total h = omega (arith, h)
count_cases false false false r count total h = omega (arith, h)

pub count_step : (test : ℕ → Bool) (c : ℕ) (cs : List ℕ) (in_run : Bool) (count total : ℕ)
    → count + run_count test (c ∷ cs) ≡ total + counted in_run test (c ∷ cs)
    → (count + cond (test c && not in_run) 1 0) + run_count test cs ≡ total + counted (test c) test cs
count_step test c cs in_run count total = count_cases (test c) in_run (begins test cs) (run_count test cs) count total

-- a string has at most as many characters as bytes
pub chars_fit : (bs : List ℕ) → IsUtf8 bs → length (chars bs) ≤ length bs
chars_fit bs u = omega (arith, length-le-encodes (chars bs), ap length (encodes-chars bs u))

-- the character for a run that has ended and is not written yet
abbrev pub owed : Bool → ℕ → (ℕ → Bool) → List ℕ → List ℕ
owed in_run by test cs = cond (in_run && not (begins test cs)) (by ∷ []) []

-- what is still to be written
abbrev pub unwritten : Bool → ℕ → (ℕ → Bool) → List ℕ → List ℕ
unwritten in_run by test cs = owed in_run by test cs ++ with_runs_as test by cs

owed_cases : (t i b : Bool) (by c : ℕ) (rest : List ℕ)
    → cond (i && not t) (by ∷ []) [] ++ (cond (t && not b) (by ∷ []) (cond t [] (c ∷ [])) ++ rest)
    ≡ cond t [] (cond i (by ∷ c ∷ []) (c ∷ [])) ++ (cond (t && not b) (by ∷ []) [] ++ rest)
owed_cases true true true by c rest = refl
owed_cases true true false by c rest = refl
owed_cases true false true by c rest = refl
owed_cases true false false by c rest = refl
owed_cases false true true by c rest = refl
owed_cases false true false by c rest = refl
owed_cases false false true by c rest = refl
owed_cases false false false by c rest = refl

-- what is written for a character
abbrev pub written_for : Bool → Bool → ℕ → ℕ → List ℕ
written_for passes in_run by c = cond passes [] (cond in_run (by ∷ c ∷ []) (c ∷ []))

pub unwritten_step : (in_run : Bool) (by : ℕ) (test : ℕ → Bool) (c : ℕ) (cs : List ℕ)
    → unwritten in_run by test (c ∷ cs) ≡ written_for (test c) in_run by c ++ unwritten (test c) by test cs
unwritten_step in_run by test c cs = owed_cases (test c) in_run (begins test cs) by c (with_runs_as test by cs)

-- a string without its last character, if that is such a one
last_cases : (b : Bool) (c : ℕ) (xs ys : List ℕ) → c ∷ cond b xs ys ≡ cond b (c ∷ xs) (c ∷ ys)
last_cases true c xs ys = refl
last_cases false c xs ys = refl

last_from : (by c : ℕ) (cs : List ℕ)
    → without_last by (c ∷ cs) ≡ cond (eqb (get_or (c ∷ cs) (length cs) 0) by) (take (length cs) (c ∷ cs)) (c ∷ cs)
last_from by c [] = refl
last_from by c (d ∷ cs) =
    ap (λ l. c ∷ l) (last_from by d cs)
    ∙ last_cases (eqb (get_or (d ∷ cs) (length cs) 0) by) c (take (length cs) (d ∷ cs)) (d ∷ cs)

pub without_last_at : (by : ℕ) (bs : List ℕ) → 0 < length bs
    → without_last by bs ≡ cond (eqb (get_or bs (length bs - 1) 0) by) (take (length bs - 1) bs) bs
without_last_at by [] within = absurd (omega arith)
without_last_at by (c ∷ cs) within =
    let one : suc (length cs) - 1 ≡ length cs = omega arith in
    rw one (last_from by c cs)

pub drops_last : (by : ℕ) (bs : List ℕ) → 0 < length bs → get_or bs (length bs - 1) 0 ≡ by → without_last by bs ≡ take (length bs - 1) bs
drops_last by bs within same = without_last_at by bs within ∙ cond-true _ _ _ (eq-eqb _ _ same)

pub keeps_last : (by : ℕ) (bs : List ℕ) → 0 < length bs → (get_or bs (length bs - 1) 0 ≡ by → ⊥) → without_last by bs ≡ bs
keeps_last by bs within other = without_last_at by bs within ∙ cond-false _ _ _ (ne_eqb _ _ other)

module _ (bs rest : List ℕ) (c : ℕ) (u : IsUtf8 bs) (e : bs ≡ encode_utf8 c ++ rest) where
  -- a string with a character at its start
  pub count_next : (test : ℕ → Bool) (in_run : Bool) (count total : ℕ)
      → count + run_count test (chars bs) ≡ total + counted in_run test (chars bs)
      → (count + cond (test c && not in_run) 1 0) + run_count test (chars rest) ≡ total + counted (test c) test (chars rest)
  count_next test in_run count total h = count_step test c (chars rest) in_run count total (rw (chars_past_char bs rest c u e) at h)

  pub unwritten_next : (in_run : Bool) (by : ℕ) (test : ℕ → Bool) (out whole : List ℕ)
      → out ++ encode_utf8_all (unwritten in_run by test (chars bs)) ≡ whole
      → (out ++ encode_utf8_all (written_for (test c) in_run by c)) ++ encode_utf8_all (unwritten (test c) by test (chars rest)) ≡ whole
  unwritten_next in_run by test out whole h =
      append_assoc out (encode_utf8_all (written_for (test c) in_run by c)) (encode_utf8_all (unwritten (test c) by test (chars rest)))
      ∙ ap (λ l. out ++ l) (sym (
      ap (λ cs. encode_utf8_all (unwritten in_run by test cs)) (chars_past_char bs rest c u e)
      ∙ ap encode_utf8_all (unwritten_step in_run by test c (chars rest))
      ∙ encodes-append (written_for (test c) in_run by c) (unwritten (test c) by test (chars rest))))
      ∙ h

  pub unwritten_in : (in_run : Bool) (by : ℕ) (test : ℕ → Bool) (out whole : List ℕ) → test c ≡ true
      → out ++ encode_utf8_all (unwritten in_run by test (chars bs)) ≡ whole
      → out ++ encode_utf8_all (unwritten true by test (chars rest)) ≡ whole
  unwritten_in in_run by test out whole passes h =
      ap (λ l. l ++ encode_utf8_all (unwritten true by test (chars rest))) (sym (append-nil out))
      ∙ rw passes at (unwritten_next in_run by test out whole h)

  pub unwritten_after : (by : ℕ) (test : ℕ → Bool) (out whole : List ℕ) → test c ≡ false
      → out ++ encode_utf8_all (unwritten true by test (chars bs)) ≡ whole
      → ((out ++ encode_utf8 by) ++ encode_utf8 c) ++ encode_utf8_all (unwritten false by test (chars rest)) ≡ whole
  unwritten_after by test out whole fails h =
      ap (λ l. l ++ encode_utf8_all (unwritten false by test (chars rest)))
      (append_assoc out (encode_utf8 by) (encode_utf8 c) ∙ ap (λ l. out ++ (encode_utf8 by ++ l)) (sym (append-nil (encode_utf8 c))))
      ∙ rw fails at (unwritten_next true by test out whole h)

  pub unwritten_alone : (by : ℕ) (test : ℕ → Bool) (out whole : List ℕ) → test c ≡ false
      → out ++ encode_utf8_all (unwritten false by test (chars bs)) ≡ whole
      → (out ++ encode_utf8 c) ++ encode_utf8_all (unwritten false by test (chars rest)) ≡ whole
  unwritten_alone by test out whole fails h =
      ap (λ l. (out ++ l) ++ encode_utf8_all (unwritten false by test (chars rest))) (sym (append-nil (encode_utf8 c)))
      ∙ rw fails at (unwritten_next false by test out whole h)

  pub count_new : (test : ℕ → Bool) (count total : ℕ) → test c ≡ true
      → count + run_count test (chars bs) ≡ total + counted false test (chars bs)
      → (count + 1) + run_count test (chars rest) ≡ total + counted true test (chars rest)
  count_new test count total passes h = rw passes at (count_next test false count total h)

  pub count_old : (test : ℕ → Bool) (count total : ℕ) → test c ≡ true
      → count + run_count test (chars bs) ≡ total + counted true test (chars bs)
      → count + run_count test (chars rest) ≡ total + counted true test (chars rest)
  count_old test count total passes h =
      let next : count + 0 + run_count test (chars rest) ≡ total + counted true test (chars rest) =
      rw passes at (count_next test true count total h) in
      rw (add-zero count) at next

  pub count_none : (test : ℕ → Bool) (in_run : Bool) (count total : ℕ) → test c ≡ false
      → count + run_count test (chars bs) ≡ total + counted in_run test (chars bs)
      → count + run_count test (chars rest) ≡ total + counted false test (chars rest)
  count_none test in_run count total fails h =
      let next : count + 0 + run_count test (chars rest) ≡ total + 0 =
      rw fails at (count_next test in_run count total h) in
      rw (add-zero count) at next

  pub fewer_chars : length (chars bs) ≡ length (chars rest) + 1
  fewer_chars = let l : length (chars bs) ≡ suc (length (chars rest)) = ap length (chars_past_char bs rest c u e) in omega (arith, l)
