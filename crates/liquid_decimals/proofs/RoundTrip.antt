-- What is written is read.
use Rattle.std.proofs.Common.{
  ◌≡◌,
  ℕ,
  zero,
  suc,
  ℤ,
  pos,
  negsuc,
  neg_ℤ,
  ◌+◌,
  ◌-◌,
  ◌*◌,
  ◌/◌,
  ◌%◌,
  ◌^◌,
  ◌<◌,
  ◌≤◌,
  List,
  [],
  ◌∷◌,
  ◌++◌,
  length,
  take,
  drop,
  Bool,
  true,
  false,
  ◌&&◌,
  cond,
  eqb,
  ltb,
  leb,
  Option,
  Some,
  None,
  FitsSigned,
  w64,
  unsigned_abs,
  refl,
  sym,
  ap,
  ◌∙◌,
  arith,
}
use Rattle.std.specs.Prelude.{decimal, codes, slice_index}
use Rattle.std.specs.Char.{digit_value, is_ascii_digit}
use Rattle.std.specs.Int.{is_negative}
use Rattle.std.specs.Int.Signed.{le_z}
use Rattle.std.specs.List.{position, position_or_len}
use Rattle.std.specs.Str.{all_ascii_digits}
use Rattle.std.specs.Str.Parse.{digits_value, digits_value_after, starts_with_minus}
use Rattle.std.proofs.Math.Nat.{mul_assoc, mul_comm}
use Rattle.std.proofs.Math.Seq.{take-append_seam, drop-append-add}
use Rattle.std.proofs.lemmas.Bool.Decides.{nat_tests}
use Rattle.std.proofs.lemmas.Fmt.{decimal_nonempty, digits_decimal, digits_value-decimal}
use Rattle.std.proofs.lemmas.Int.{ints}
use Rattle.std.proofs.lemmas.List.{append-nil, length-append}
use Rattle.std.proofs.lemmas.Nat.{div-add-mod', mod-mul-add, mod_below, mul-le, pow-add}
use Rattle.std.proofs.lemmas.Str.Parse.{IsNumeralModel, numerals_by_value, tells_all_ascii_digits}
use Rattle.liquid_decimals.specs.meaning.Dec.{Dec, is_mantissa, limited, signed}
use Rattle.liquid_decimals.specs.meaning.Text.{decimal_around, decimal_of_text, is_numeral, point, without_minus}
use Rattle.liquid_decimals.specs.meaning.Written.{minus_sign, places, point_and_places, written}
use Rattle.liquid_decimals.proofs.DigitsRead.{numeral_is, value_append}
use Rattle.liquid_decimals.proofs.FloorLemmas.{div_le}
use Rattle.liquid_decimals.proofs.Tens.{tens_above_0}

own : IsNumeralModel (λ (ds : List ℕ). all_ascii_digits ds ≡ true) (digits_value 10)
own = numerals_by_value (λ (ds : List ℕ). all_ascii_digits ds ≡ true) tells_all_ascii_digits

value_of_glyph : (r : ℕ) → r < 10 → digit_value (48 + r) ≡ r
value_of_glyph r h = grind (arith, nat_tests)

glyph_is_digit : (r : ℕ) → r < 10 → is_ascii_digit (48 + r) ≡ true
glyph_is_digit r h = grind (arith, nat_tests)

places_are_digits : (s x : ℕ) → all_ascii_digits (places s x) ≡ true
places_are_digits zero x = refl
places_are_digits (suc k) x = rw (glyph_is_digit (x / 10 ^ k % 10) (mod_below (x / 10 ^ k) 10 (omega arith))) (places_are_digits k x)

length-places : (s x : ℕ) → length (places s x) ≡ s
length-places zero x = refl
length-places (suc k) x = ap suc (length-places k x)

distributes : (a b p : ℕ) → (a + b) * p ≡ a * p + b * p
distributes a b p = grind arith

below_tenfold : (d r p : ℕ) → d < 10 → r < p → d * p + r < 10 * p
below_tenfold d r p h g = let w : d * p ≤ 9 * p = mul-le d p 9 p (omega arith) (omega arith) in omega arith

-- the last digits of a number, one more of them
last_digits : (k x : ℕ) → x % 10 ^ (k + 1) ≡ (x / 10 ^ k % 10) * 10 ^ k + x % 10 ^ k
last_digits k x =
    let p = 10 ^ k in
    let above : 0 < p = tens_above_0 k in
    let unit : 10 ^ (k + 1) ≡ 10 * p = pow-add 10 k 1 ∙ mul_comm p 10 in
    let front : x / p / 10 * 10 + x / p % 10 ≡ x / p = div-add-mod' (x / p) 10 in
    let whole : x / p * p + x % p ≡ x = div-add-mod' x p in
    let ten : x / p / 10 * 10 * p ≡ x / p / 10 * (10 * p) = mul_assoc (x / p / 10) 10 p in
    let rest = x / p % 10 * p + x % p in
    let parts : x / p * p ≡ x / p / 10 * 10 * p + x / p % 10 * p =
    ap (λ y. y * p) (sym front) ∙ distributes (x / p / 10 * 10) (x / p % 10) p in
    let split : x ≡ x / p / 10 * (10 * p) + rest = omega arith in
    let small : rest < 10 * p = below_tenfold (x / p % 10) (x % p) p (mod_below (x / p) 10 (omega arith)) (mod_below x p above) in
    ap (λ u. x % u) unit ∙ ap (λ y. y % (10 * p)) split ∙ mod-mul-add (x / p / 10) (10 * p) rest small

places_value : (n s x : ℕ) → digits_value_after 10 n (places s x) ≡ n * 10 ^ s + x % 10 ^ s
places_value n zero x = omega arith
places_value n (suc k) x =
    let p = 10 ^ k in
    let digit = x / p % 10 in
    let value : digit_value (48 + digit) ≡ digit = value_of_glyph digit (mod_below (x / p) 10 (omega arith)) in
    let unit : 10 * p ≡ 10 ^ (k + 1) = mul_comm 10 p ∙ sym (pow-add 10 k 1) in
    let moved : n * 10 * p ≡ n * 10 ^ (k + 1) = mul_assoc n 10 p ∙ ap (λ y. n * y) unit in
    let spread : (n * 10 + digit) * p ≡ n * 10 * p + digit * p = distributes (n * 10) digit p in
    let last : x % 10 ^ (k + 1) ≡ digit * p + x % p = last_digits k x in
    let whole : (n * 10 + digit) * p + x % p ≡ n * 10 ^ (k + 1) + x % 10 ^ (k + 1) = omega arith in
    let step : k + 1 ≡ suc k = omega arith in
    ap (λ v. digits_value_after 10 (n * 10 + v) (places k x)) value ∙ places_value (n * 10 + digit) k x ∙ whole
    ∙ ap (λ e. n * 10 ^ e + x % 10 ^ e) step

-- digits have no point
position_after : (ds rest : List ℕ) → all_ascii_digits ds ≡ true → position_or_len (λ c. eqb c 46) (ds ++ (46 ∷ rest)) ≡ length ds
position_after [] rest h = refl
position_after (d ∷ ds) rest h =
    let no : eqb d 46 ≡ false = grind (arith, nat_tests) in
    let more : all_ascii_digits ds ≡ true = grind (arith, nat_tests) in
    rw (no, position_after ds rest more) (omega arith)

position_none : (ds : List ℕ) → all_ascii_digits ds ≡ true → position_or_len (λ c. eqb c 46) ds ≡ length ds
position_none [] h = refl
position_none (d ∷ ds) h =
    let no : eqb d 46 ≡ false = grind (arith, nat_tests) in
    let more : all_ascii_digits ds ≡ true = grind (arith, nat_tests) in
    rw (no, position_none ds more) (omega arith)

point_after : (ds rest : List ℕ) → all_ascii_digits ds ≡ true → point (ds ++ (46 ∷ rest)) ≡ Some (length ds)
point_after ds rest h =
    let within : ltb (length ds) (length (ds ++ (46 ∷ rest))) ≡ true = simp length-append (grind (arith, nat_tests)) in
    rw (position_after ds rest h, within) refl

point_none : (ds : List ℕ) → all_ascii_digits ds ≡ true → point ds ≡ None
point_none ds h =
    let past : ltb (length ds) (length ds) ≡ false = grind (arith, nat_tests) in
    rw (position_none ds h, past) refl

-- an unsigned text is read as the magnitude that it writes
read_whole : (minus : Bool) (q : ℕ) → q < 2 ^ 64 → decimal_around minus (decimal q) (point (decimal q)) ≡ limited (signed minus q) 0
read_whole minus q h =
    let digits = digits_decimal own q h in
    rw (point_none (decimal q) digits, numeral_is (decimal q) (decimal_nonempty q h), digits, digits_value-decimal own q h) refl

read_parts : (minus : Bool) (q k x : ℕ) → q < 2 ^ 64 → q ≡ x / 10 ^ suc k
    → decimal_around minus (decimal q ++ (46 ∷ places (suc k) x)) (point (decimal q ++ (46 ∷ places (suc k) x)))
    ≡ limited (signed minus x) (suc k)
read_parts minus q k x h e =
    let whole = decimal q in
    let fraction = places (suc k) x in
    let digits = digits_decimal own q h in
    let some : 0 < length fraction = rw (length-places (suc k) x) (omega arith) in
    let value : digits_value 10 (whole ++ fraction) ≡ x =
    value_append 0 whole fraction ∙ ap (λ n. digits_value_after 10 n fraction) (digits_value-decimal own q h)
    ∙ places_value q (suc k) x ∙ ap (λ n. n * 10 ^ suc k + x % 10 ^ suc k) e ∙ div-add-mod' x (10 ^ suc k) in
    let front : take (length whole) (whole ++ (46 ∷ fraction)) ≡ whole = take-append_seam whole (46 ∷ fraction) in
    let back : drop (length whole + 1) (whole ++ (46 ∷ fraction)) ≡ fraction = drop-append-add whole (46 ∷ fraction) 1 in
    rw (
      point_after whole fraction digits,
      front,
      back,
      numeral_is whole (decimal_nonempty q h),
      numeral_is fraction some,
      digits,
      places_are_digits (suc k) x,
      value,
      length-places (suc k) x,
    ) refl

unsigned_read : (minus : Bool) (s x q : ℕ) → q < 2 ^ 64 → q ≡ x / 10 ^ s
    → decimal_around minus (decimal q ++ point_and_places (codes ".") s x) (point (decimal q ++ point_and_places (codes ".") s x))
    ≡ limited (signed minus x) s
unsigned_read minus zero x q h e =
    let same : q ≡ x = omega arith in
    rw append-nil (read_whole minus q h ∙ ap (λ n. limited (signed minus n) 0) same)
unsigned_read minus (suc k) x q h e =
    let some : ltb 0 (suc k) ≡ true = grind (arith, nat_tests) in
    rw some (read_parts minus q k x h e)

plain_read : (ds ys : List ℕ) → 0 < length ds → all_ascii_digits ds ≡ true
    → decimal_of_text (ds ++ ys) ≡ decimal_around false (ds ++ ys) (point (ds ++ ys))
plain_read [] ys some h = absurd (omega arith)
plain_read (d ∷ ds) ys some h = let no : eqb d 45 ≡ false = grind (arith, nat_tests) in rw no refl

by_sign : (minus : Bool) (s x q : ℕ) → q < 2 ^ 64 → q ≡ x / 10 ^ s
    → decimal_of_text (cond minus (codes "-") [] ++ decimal q ++ point_and_places (codes ".") s x) ≡ limited (signed minus x) s
by_sign true s x q h e = unsigned_read true s x q h e
by_sign false s x q h e =
    plain_read (decimal q) (point_and_places (codes ".") s x) (decimal_nonempty q h) (digits_decimal own q h)
    ∙ unsigned_read false s x q h e

signed_abs : (m : ℤ) → signed (is_negative m) (unsigned_abs m) ≡ m
signed_abs (pos a) = grind arith
signed_abs (negsuc a) = grind arith

kept : (m : ℤ) (s : ℕ) → FitsSigned w64 m → s ≤ 18 → limited m s ≡ Some (m, s)
kept (pos a) s fits h =
    let below : a < 2 ^ 63 = fits.sfits in
    let high : le_z (pos a) (pos (2 ^ 63 - 1)) ≡ true = grind (arith, nat_tests) in grind (arith, nat_tests)
kept (negsuc a) s fits h =
    let below : a < 2 ^ 63 = fits.sfits in
    let low : le_z (neg_ℤ (pos (2 ^ 63))) (negsuc a) ≡ true = grind (arith, nat_tests) in grind (arith, nat_tests)

pub written_read : (d : Dec) → FitsSigned w64 d.0 → d.1 ≤ 18 → decimal_of_text (written d) ≡ Some d
written_read d fits h =
    let magnitude : unsigned_abs d.0 ≤ 2 ^ 63 = omega (arith, ints, fits.sfits) in
    let quotient : unsigned_abs d.0 / 10 ^ d.1 < 2 ^ 64 = omega (arith, div_le (unsigned_abs d.0) (10 ^ d.1) (tens_above_0 d.1)) in
    by_sign (is_negative d.0) d.1 (unsigned_abs d.0) (unsigned_abs d.0 / 10 ^ d.1) quotient refl
    ∙ ap (λ m. limited m d.1) (signed_abs d.0) ∙ kept d.0 d.1 fits h
