-- What `parse` reads as an `i64` is the integer that the text writes.
use Rattle.std.proofs.Common.{
  ◌≡◌,
  ℕ,
  zero,
  suc,
  ◌-◌,
  ◌^◌,
  ◌<◌,
  refl,
  sym,
  ap,
  List,
  Bool,
  true,
  false,
  true≢false,
  cond,
  ◌&&◌,
  ℤ,
  pos,
  neg_ℤ,
  Some,
  None,
  Result,
  Ok,
  Err,
  length,
  leb,
  ltb,
  lit<,
  arith,
}
use Rattle.std.specs.Prelude.{FitsSigned}
use Rattle.std.specs.Int.{w64}
use Rattle.std.specs.Bool.{Decides}
use Rattle.std.specs.Result.{OkIff, result_ok}
use Rattle.std.specs.Str.{all_ascii_digits}
use Rattle.std.specs.Str.Parse.{
  IsNumeral,
  ParsesSigned,
  AllDigits,
  digits_value,
  signed_digits_value,
  starts_with_minus,
  without_leading_sign,
}
use Rattle.std.proofs.lemmas.Str.Parse.{IsNumeralModel, numerals_by_value, tells_all_ascii_digits}
use Rattle.std.proofs.lemmas.Bool.Decides.{Decides-and, Decides-ltb, Decides-like, nat_tests}
use Rattle.liquid_scalar.specs.meaning.Scalar.{is_whole_number, whole_number_of_text, greatest_magnitude}

-- a result that is `Ok x` exactly if Q holds, together with a test that decides Q
ok_by_test : {E : Type 0} (r : Result ℤ E) (Q : Type 0) (t : Bool) (x : ℤ) → OkIff r Q x → Decides t Q → result_ok r ≡ cond t (Some x) None
ok_by_test (Ok y) Q true x h d = ap Some h.1
ok_by_test (Ok y) Q false x h d = absurd (true≢false (sym (d.1 h.0)))
ok_by_test (Err e) Q true x h d = absurd (h (d.0 refl))
ok_by_test (Err e) Q false x h d = refl

own : IsNumeralModel (λ (ds : List ℕ). all_ascii_digits ds ≡ true) (digits_value 10)
own = numerals_by_value (λ (ds : List ℕ). all_ascii_digits ds ≡ true) tells_all_ascii_digits

digits_decide : (ds : List ℕ) → Decides (all_ascii_digits ds) (AllDigits 10 ds)
digits_decide ds = (own.to ds, own.from ds)

fits_positive : (m : ℕ) → Decides (leb m (2 ^ 63 - 1)) (FitsSigned w64 (pos m))
fits_positive m = (λ h. record { sfits = grind (arith, nat_tests) }, λ h. let below : m < 2 ^ 63 = h.sfits in grind (arith, nat_tests))

fits_negative : (m : ℕ) → Decides (leb m (2 ^ 63)) (FitsSigned w64 (neg_ℤ (pos m)))
fits_negative zero = (λ h. record { sfits = lit< tt }, λ h. refl)
fits_negative (suc m) = (
  λ h. record { sfits = grind (arith, nat_tests) },
  λ h. let below : m < 2 ^ 63 =
      h.sfits in grind (arith, nat_tests),
)

fits_decide : (minus : Bool) (m : ℕ) → Decides (leb m (cond minus (2 ^ 63) (2 ^ 63 - 1)))
    (FitsSigned w64 (cond minus (neg_ℤ (pos m)) (pos m)))
fits_decide true m = fits_negative m
fits_decide false m = fits_positive m

whole_decides : (bytes : List ℕ) → Decides (is_whole_number bytes)
    (IsNumeral 10 (without_leading_sign bytes) × FitsSigned w64 (signed_digits_value 10 bytes))
whole_decides bytes =
    let some = Decides-ltb 0 (length (without_leading_sign bytes)) in
    let fits = fits_decide (starts_with_minus bytes) (digits_value 10 (without_leading_sign bytes)) in
    let both = Decides-and (all_ascii_digits (without_leading_sign bytes))
    (leb (digits_value 10 (without_leading_sign bytes)) (greatest_magnitude bytes)) (digits_decide (without_leading_sign bytes)) fits in
    let all = Decides-and (ltb 0 (length (without_leading_sign bytes)))
    (all_ascii_digits (without_leading_sign bytes) && leb (digits_value 10 (without_leading_sign bytes))
    (greatest_magnitude bytes)) some both in
    Decides-like (is_whole_number bytes) (λ h. ((h.0, h.1.0), h.1.1)) (λ h. (h.0.0, (h.0.1, h.1))) all

pub parse_reads_whole_number : {E : Type 0} (bytes : List ℕ) (r : Result ℤ E) → ParsesSigned w64 10 bytes r
    → result_ok r ≡ whole_number_of_text bytes
parse_reads_whole_number bytes r h =
    ok_by_test r (IsNumeral 10 (without_leading_sign bytes) × FitsSigned w64 (signed_digits_value 10 bytes)) (is_whole_number bytes)
    (signed_digits_value 10 bytes) h (whole_decides bytes)
