-- Each group of `cycle` has a key of its own.
use Rattle.std.proofs.Common.{◌≡◌, ℕ, ◌+◌, ◌<◌, ◌%◌, ◌^◌, List, [], ◌∷◌, ◌++◌, length, refl, sym, ap, ◌∙◌, arith, append_assoc}
use Rattle.std.specs.Prelude.{⊤}
use Rattle.std.specs.Fmt.{decimal}
use Rattle.std.proofs.Math.Nat.{mod-lt}
use Rattle.std.proofs.lemmas.Fmt.{decimal_by_steps, decimal_injective}
use Rattle.liquid_std.specs.laws.marks.Keys.{AreTexts, KeysDiffer}
use Rattle.liquid_std.specs.meaning.marks.Groups.{named, unnamed, with_length, with_lengths}

abbrev first : List ℕ → ℕ
first [] = 0
first (b ∷ bs) = b

abbrev rest : List ℕ → List ℕ
rest [] = []
rest (b ∷ bs) = bs

-- bytes before the colon
abbrev Digits : List ℕ → Type 0
Digits [] = ⊤
Digits (b ∷ bs) = (b < 58) × Digits bs

digit_after : (ds : List ℕ) (d : ℕ) → d < 58 → Digits ds → Digits (ds ++ d ∷ [])
digit_after [] d small is = (small, tt)
digit_after (b ∷ ds) d small is = (is.0, digit_after ds d small is.1)

last_digit : (n : ℕ) → 48 + n % 10 < 58
last_digit n = let small : n % 10 < 10 = mod-lt n (omega arith) in omega (arith, small)

digits_only : (n : ℕ) → n < 2 ^ 64 → Digits (decimal n)
digits_only =
    decimal_by_steps (λ n ds. Digits ds) (λ n small. (omega (arith, small), tt))
    (λ n ds large is. digit_after ds (48 + n % 10) (last_digit n) is)

-- two texts that begin with digits and a colon have the same digits, and go on alike
up_to_colon : (ds es xs ys : List ℕ) → Digits ds → Digits es → ds ++ 58 ∷ xs ≡ es ++ 58 ∷ ys → (ds ≡ es) × (xs ≡ ys)
up_to_colon [] [] xs ys p q e = (refl, ap rest e)
up_to_colon [] (c ∷ es) xs ys p q e = let same : 58 ≡ c = ap first e in absurd (omega (arith, same, q.0))
up_to_colon (b ∷ ds) [] xs ys p q e = let same : b ≡ 58 = ap first e in absurd (omega (arith, same, p.0))
up_to_colon (b ∷ ds) (c ∷ es) xs ys p q e =
    let same = up_to_colon ds es xs ys p.1 q.1 (ap rest e) in
    (ap (λ x. x ∷ ds) (ap first e) ∙ ap (λ l. c ∷ l) same.0, same.1)

-- two texts of one length at the front
split_alike : (s t xs ys : List ℕ) → length s ≡ length t → s ++ xs ≡ t ++ ys → (s ≡ t) × (xs ≡ ys)
split_alike [] [] xs ys l e = (refl, e)
split_alike [] (c ∷ t) xs ys l e = absurd (omega (arith, l))
split_alike (b ∷ s) [] xs ys l e = absurd (omega (arith, l))
split_alike (b ∷ s) (c ∷ t) xs ys l e =
    let same = split_alike s t xs ys (omega (arith, l)) (ap rest e) in
    (ap (λ x. x ∷ s) (ap first e) ∙ ap (λ k. c ∷ k) same.0, same.1)

-- the length, the colon, and what follows
after_length : (t more : List ℕ) → with_length t ++ more ≡ decimal (length t) ++ 58 ∷ (t ++ more)
after_length t more = append_assoc (decimal (length t)) (58 ∷ t) more

first_text : (s t xs ys : List ℕ) → length s < 2 ^ 64 → length t < 2 ^ 64 → with_length s ++ xs ≡ with_length t ++ ys → (s ≡ t) × (xs ≡ ys)
first_text s t xs ys small short e =
    let parts =
    up_to_colon (decimal (length s)) (decimal (length t)) (s ++ xs) (t ++ ys) (digits_only (length s) small)
    (digits_only (length t) short)
    (sym (after_length s xs) ∙ e ∙ after_length t ys) in
    split_alike s t xs ys (decimal_injective (length s) (length t) small short parts.0) parts.1

not_empty : (ds xs : List ℕ) → [] ≡ ds ++ 58 ∷ xs → ⊥
not_empty [] xs e = cc
not_empty (b ∷ ds) xs e = cc

not_named : (ds xs name : List ℕ) → Digits ds → 61 ∷ name ≡ ds ++ 58 ∷ xs → ⊥
not_named [] xs name is e = let same : ◌≡◌ {A = ℕ} 61 58 = ap first e in omega (arith, same)
not_named (b ∷ ds) xs name is e = let same : ◌≡◌ {A = ℕ} 61 b = ap first e in omega (arith, same, is.0)

same_texts : (ss ts : List (List ℕ)) → AreTexts ss → AreTexts ts → with_lengths ss ≡ with_lengths ts → ss ≡ ts
same_texts [] [] p q e = refl
same_texts [] (t ∷ ts) p q e = absurd (not_empty (decimal (length t)) (t ++ with_lengths ts) (e ∙ after_length t (with_lengths ts)))
same_texts (s ∷ ss) [] p q e = absurd (not_empty (decimal (length s)) (s ++ with_lengths ss) (sym e ∙ after_length s (with_lengths ss)))
same_texts (s ∷ ss) (t ∷ ts) p q e =
    let same = first_text s t (with_lengths ss) (with_lengths ts) p.0 q.0 e in
    ap (λ x. x ∷ ss) same.0 ∙ ap (λ l. t ∷ l) (same_texts ss ts p.1 q.1 same.1)

unlike : (name : List ℕ) (ts : List (List ℕ)) → AreTexts ts → 61 ∷ name ≡ with_lengths ts → ⊥
unlike name [] q e = cc
unlike name (t ∷ ts) q e =
    not_named (decimal (length t)) (t ++ with_lengths ts) name (digits_only (length t) q.0) (e ∙ after_length t (with_lengths ts))

pub keys_differ : KeysDiffer
keys_differ (named a) (named b) p q e = ap named (ap rest e)
keys_differ (named a) (unnamed ts) p q e = absurd (unlike a ts q e)
keys_differ (unnamed ss) (named b) p q e = absurd (unlike b ss p (sym e))
keys_differ (unnamed ss) (unnamed ts) p q e = ap unnamed (same_texts ss ts p q e)
