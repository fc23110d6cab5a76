-- The number of an integer literal.
use Rattle.std.proofs.Common.{
  ◌≡◌,
  ℕ,
  ◌^◌,
  ◌<◌,
  ◌≤◌,
  ◌==◌,
  ◌&&◌,
  Bool,
  true,
  false,
  cond,
  List,
  length,
  drop,
  get_or,
  Option,
  Some,
  None,
  Result,
  Ok,
  Err,
  ℤ,
  pos,
  neg_ℤ,
  rules,
  refl,
  sym,
  ap,
  ap₂,
  ◌∙◌,
  arith,
  w64,
  OkIff,
  eqb-true,
}
use Rattle.std.specs.Result.{result_ok}
use Rattle.std.specs.Str.{all_ascii_digits}
use Rattle.std.specs.Str.Parse.{ParsesSigned, digits_value}
use Rattle.std.proofs.lemmas.Str.Parse.{IsNumeralModel, numerals_by_value, parse_signed_minus, parse_signed_plus, parse_signed_plain}
use Rattle.std.proofs.lemmas.Bool.{false≢true, eqb-false}
use Rattle.std.proofs.lemmas.Bool.Decides.{nat_tests}
use Rattle.liquid_grammar.specs.meaning.Faults.{is_numeral, fits_integer, integer_of}

own : IsNumeralModel (λ ds. all_ascii_digits ds ≡ true) (digits_value 10)
own = numerals_by_value _ (search rules)

-- a test decides what the result depends on
by_test : {E : Type 0} (t : Bool) (C : Type 0) (x : ℤ) (r : Result ℤ E) → (t ≡ true → C) → (C → t ≡ true) → OkIff r C x
    → cond t (Some x) None ≡ result_ok r
by_test true C x (Ok y) f g h = ap (λ z. Some z) (sym h.1)
by_test true C x (Err e) f g h = absurd (h (f refl))
by_test false C x (Ok y) f g h = absurd (false≢true (g h.0))
by_test false C x (Err e) f g h = refl

abbrev test : Bool → List ℕ → Bool
test negative ds = is_numeral ds && fits_integer negative (digits_value 10 ds)

test_low : (ds : List ℕ) → test true ds ≡ true → (all_ascii_digits ds ≡ true) × (0 < length ds) × (digits_value 10 ds ≤ 2 ^ 63)
test_low ds e = grind (arith, nat_tests)

low_test : (ds : List ℕ) → (all_ascii_digits ds ≡ true) × (0 < length ds) × (digits_value 10 ds ≤ 2 ^ 63) → test true ds ≡ true
low_test ds h = grind (arith, nat_tests)

test_high : (ds : List ℕ) → test false ds ≡ true → (all_ascii_digits ds ≡ true) × (0 < length ds) × (digits_value 10 ds < 2 ^ 63)
test_high ds e = grind (arith, nat_tests)

high_test : (ds : List ℕ) → (all_ascii_digits ds ≡ true) × (0 < length ds) × (digits_value 10 ds < 2 ^ 63) → test false ds ≡ true
high_test ds h = grind (arith, nat_tests)

abbrev signed : Bool → ℕ → ℤ
signed negative n = cond negative (neg_ℤ (pos n)) (pos n)

abbrev read_integer : Bool → List ℕ → Option ℤ
read_integer negative ds = cond (test negative ds) (Some (signed negative (digits_value 10 ds))) None

-- what `parse` returns is the number that the text writes
pub integer_from_parse : {E : Type 0} (bs : List ℕ) (r : Result ℤ E) → ParsesSigned w64 10 bs r → integer_of bs ≡ result_ok r
integer_from_parse {E} bs r h = go (get_or bs 0 0 == 45) (get_or bs 0 0 == 43) refl refl
  where
    minus : get_or bs 0 0 ≡ 45 → read_integer true (drop 1 bs) ≡ result_ok r
    minus e = by_test (test true (drop 1 bs)) _ _ r (test_low (drop 1 bs)) (low_test (drop 1 bs)) (parse_signed_minus own w64 bs r h e)

    plus : get_or bs 0 0 ≡ 43 → read_integer false (drop 1 bs) ≡ result_ok r
    plus e = by_test (test false (drop 1 bs)) _ _ r (test_high (drop 1 bs)) (high_test (drop 1 bs)) (parse_signed_plus own w64 bs r h e)

    plain : ¬ (get_or bs 0 0 ≡ 43) → ¬ (get_or bs 0 0 ≡ 45) → read_integer false bs ≡ result_ok r
    plain e f = by_test (test false bs) _ _ r (test_high bs) (high_test bs) (parse_signed_plain own w64 bs r h e f)

    read : Bool → Bool → Option ℤ
    read m p = read_integer m (cond m (drop 1 bs) (drop (cond p 1 0) bs))

    go : (m p : Bool) → (get_or bs 0 0 == 45) ≡ m → (get_or bs 0 0 == 43) ≡ p → read (get_or bs 0 0 == 45)
        (get_or bs 0 0 == 43) ≡ result_ok r
    go true p e f = ap₂ read e f ∙ minus (eqb-true _ 45 e)
    go false true e f = ap₂ read e f ∙ plus (eqb-true _ 43 f)
    go false false e f = ap₂ read e f ∙ plain (eqb-false _ 43 f) (eqb-false _ 45 e)
