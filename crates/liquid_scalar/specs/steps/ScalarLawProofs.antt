-- The laws of the comparisons of scalars, by pairs of kinds.
use Rattle.std.proofs.Common.{◌≡◌, ℕ, ℤ, pos, ◌+ℤ◌, ◌-ℤ◌, ◌*ℤ◌, ◌<ℤ◌, refl, sym, ap, ◌∙◌, List, ◌++◌, true, false, Some, arith}
use Rattle.std.specs.Prelude.{option_map}
use Rattle.std.specs.declared.cmp.Ordering.{Ordering}
use Rattle.std.specs.declared.cmp.Ordering.TheVariants.{Less, Equal, Greater}
use Rattle.std.specs.Ordering.{ordering_reverse, int_cmp, is_eq, MatchOrdering}
use Rattle.std.specs.Cmp.{IsEquivalence, int_eq_equiv, bool_eq_equiv, signed_Decides, int_cmp_total, bool_cmp_total, int_ranks, int_cmp_is}
use Rattle.std.specs.Cmp.Lexicographic.{bytes_decides, nat_list_eq_equiv, nat_list_cmp_total, texts_ties}
use Rattle.std.specs.Hash as writes
use Rattle.std.proofs.lemmas.Int.{ints}
use Rattle.jiff_core.specs.declared.civil.date.Date.{Date as CivilDate}
use Rattle.jiff_core.specs.Date.{epoch_day}
use Rattle.liquid_dates.specs.declared.date_time.DateTime.{DateTime}
use Rattle.liquid_dates.specs.meaning.Instant.{day_number, second_of_day, offset_seconds, nanosecond, unix_seconds, instant}
use Rattle.liquid_scalar.specs.meaning.Scalar.{Scal, integer, boolean, text, date, date_time}
use Rattle.liquid_scalar.specs.meaning.ScalarCompare.{instant_on, scalar_eq, scalar_cmp, same_scalar, scalar_hash}

-- with the same time of day and offset on two days, the instants compare as the days do
ranked_by_day : (a b s o n : ℤ) (r : Ordering) → MatchOrdering r
    ((((a *ℤ pos 86_400 +ℤ s) -ℤ o) *ℤ pos 1_000_000_000 +ℤ n) <ℤ (((b *ℤ pos 86_400 +ℤ s) -ℤ o) *ℤ pos 1_000_000_000 +ℤ n))
    ((((a *ℤ pos 86_400 +ℤ s) -ℤ o) *ℤ pos 1_000_000_000 +ℤ n) ≡ (((b *ℤ pos 86_400 +ℤ s) -ℤ o) *ℤ pos 1_000_000_000 +ℤ n))
    ((((b *ℤ pos 86_400 +ℤ s) -ℤ o) *ℤ pos 1_000_000_000 +ℤ n) <ℤ (((a *ℤ pos 86_400 +ℤ s) -ℤ o) *ℤ pos 1_000_000_000 +ℤ n))
    → MatchOrdering r (a <ℤ b) (a ≡ b) (b <ℤ a)
ranked_by_day a b s o n Less h = omega (arith, ints)
ranked_by_day a b s o n Equal h = omega (arith, ints)
ranked_by_day a b s o n Greater h = omega (arith, ints)

cmp_by_day : (a b s o n : ℤ) → int_cmp (((a *ℤ pos 86_400 +ℤ s) -ℤ o) *ℤ pos 1_000_000_000 +ℤ n)
    (((b *ℤ pos 86_400 +ℤ s) -ℤ o) *ℤ pos 1_000_000_000 +ℤ n) ≡ int_cmp a b
cmp_by_day a b s o n = int_cmp_is a b (int_cmp (((a *ℤ pos 86_400 +ℤ s) -ℤ o) *ℤ pos 1_000_000_000 +ℤ n)
    (((b *ℤ pos 86_400 +ℤ s) -ℤ o) *ℤ pos 1_000_000_000 +ℤ n))
    (ranked_by_day a b s o n (int_cmp (((a *ℤ pos 86_400 +ℤ s) -ℤ o) *ℤ pos 1_000_000_000 +ℤ n)
    (((b *ℤ pos 86_400 +ℤ s) -ℤ o) *ℤ pos 1_000_000_000 +ℤ n))
    (int_ranks (((a *ℤ pos 86_400 +ℤ s) -ℤ o) *ℤ pos 1_000_000_000 +ℤ n) (((b *ℤ pos 86_400 +ℤ s) -ℤ o) *ℤ pos 1_000_000_000 +ℤ n)))

-- a date time moved to a date compares with itself as that date does with its own
pub moved_before : (d : CivilDate) (dt : DateTime) → int_cmp (instant_on d dt) (instant dt) ≡ int_cmp (epoch_day d) (day_number dt)
unfolding instant unix_seconds
moved_before d dt = cmp_by_day (epoch_day d) (day_number dt) (pos (second_of_day dt)) (offset_seconds dt) (pos (nanosecond dt))

pub moved_after : (d : CivilDate) (dt : DateTime) → int_cmp (instant dt) (instant_on d dt) ≡ int_cmp (day_number dt) (epoch_day d)
unfolding instant unix_seconds
moved_after d dt = cmp_by_day (day_number dt) (epoch_day d) (pos (second_of_day dt)) (offset_seconds dt) (pos (nanosecond dt))

pub same_refl : (a : Scal) → same_scalar a a ≡ true
same_refl (integer a) = int_eq_equiv.refl a
same_refl (boolean a) = bool_eq_equiv.refl a
same_refl (text a) = nat_list_eq_equiv.refl a
same_refl (date a) = int_eq_equiv.refl (epoch_day a)
same_refl (date_time a) = int_eq_equiv.refl (instant a)

pub same_symm : (a b : Scal) → same_scalar a b ≡ same_scalar b a
same_symm (integer a) (integer b) = int_eq_equiv.symm a b
same_symm (boolean a) (boolean b) = bool_eq_equiv.symm a b
same_symm (text a) (text b) = nat_list_eq_equiv.symm a b
same_symm (date a) (date b) = int_eq_equiv.symm (epoch_day a) (epoch_day b)
same_symm (date_time a) (date_time b) = int_eq_equiv.symm (instant a) (instant b)
same_symm (integer a) (boolean b) = refl
same_symm (integer a) (text b) = refl
same_symm (integer a) (date b) = refl
same_symm (integer a) (date_time b) = refl
same_symm (boolean a) (integer b) = refl
same_symm (boolean a) (text b) = refl
same_symm (boolean a) (date b) = refl
same_symm (boolean a) (date_time b) = refl
same_symm (text a) (integer b) = refl
same_symm (text a) (boolean b) = refl
same_symm (text a) (date b) = refl
same_symm (text a) (date_time b) = refl
same_symm (date a) (integer b) = refl
same_symm (date a) (boolean b) = refl
same_symm (date a) (text b) = refl
same_symm (date a) (date_time b) = refl
same_symm (date_time a) (integer b) = refl
same_symm (date_time a) (boolean b) = refl
same_symm (date_time a) (text b) = refl
same_symm (date_time a) (date b) = refl

-- strictly equal scalars of one kind have equal contents
same_integer : (a b : ℤ) → same_scalar (integer a) (integer b) ≡ true → a ≡ b
same_integer a b h = (signed_Decides a b).0 h

same_text : (a b : List ℕ) → same_scalar (text a) (text b) ≡ true → a ≡ b
same_text a b h = (bytes_decides a b).0 h

pub same_congr : (a b c : Scal) → same_scalar a b ≡ true → same_scalar a c ≡ same_scalar b c
same_congr (integer a) (integer b) (integer c) h = int_eq_equiv.congr a b c h
same_congr (integer a) (integer b) (boolean c) h = refl
same_congr (integer a) (integer b) (text c) h = refl
same_congr (integer a) (integer b) (date c) h = refl
same_congr (integer a) (integer b) (date_time c) h = refl
same_congr (boolean a) (boolean b) (integer c) h = refl
same_congr (boolean a) (boolean b) (boolean c) h = bool_eq_equiv.congr a b c h
same_congr (boolean a) (boolean b) (text c) h = refl
same_congr (boolean a) (boolean b) (date c) h = refl
same_congr (boolean a) (boolean b) (date_time c) h = refl
same_congr (text a) (text b) (integer c) h = refl
same_congr (text a) (text b) (boolean c) h = refl
same_congr (text a) (text b) (text c) h = nat_list_eq_equiv.congr a b c h
same_congr (text a) (text b) (date c) h = refl
same_congr (text a) (text b) (date_time c) h = refl
same_congr (date a) (date b) (integer c) h = refl
same_congr (date a) (date b) (boolean c) h = refl
same_congr (date a) (date b) (text c) h = refl
same_congr (date a) (date b) (date c) h = int_eq_equiv.congr (epoch_day a) (epoch_day b) (epoch_day c) h
same_congr (date a) (date b) (date_time c) h = refl
same_congr (date_time a) (date_time b) (integer c) h = refl
same_congr (date_time a) (date_time b) (boolean c) h = refl
same_congr (date_time a) (date_time b) (text c) h = refl
same_congr (date_time a) (date_time b) (date c) h = refl
same_congr (date_time a) (date_time b) (date_time c) h = int_eq_equiv.congr (instant a) (instant b) (instant c) h
same_congr (integer a) (boolean b) c h = cc
same_congr (integer a) (text b) c h = cc
same_congr (integer a) (date b) c h = cc
same_congr (integer a) (date_time b) c h = cc
same_congr (boolean a) (integer b) c h = cc
same_congr (boolean a) (text b) c h = cc
same_congr (boolean a) (date b) c h = cc
same_congr (boolean a) (date_time b) c h = cc
same_congr (text a) (integer b) c h = cc
same_congr (text a) (boolean b) c h = cc
same_congr (text a) (date b) c h = cc
same_congr (text a) (date_time b) c h = cc
same_congr (date a) (integer b) c h = cc
same_congr (date a) (boolean b) c h = cc
same_congr (date a) (text b) c h = cc
same_congr (date a) (date_time b) c h = cc
same_congr (date_time a) (integer b) c h = cc
same_congr (date_time a) (boolean b) c h = cc
same_congr (date_time a) (text b) c h = cc
same_congr (date_time a) (date b) c h = cc

-- strict equality is an equivalence
pub same_scalar_equiv : IsEquivalence same_scalar
same_scalar_equiv = record { refl = same_refl; symm = same_symm; congr = same_congr }

-- strictly equal scalars feed a hasher the same bytes
pub hash_agrees : (a b : Scal) → same_scalar a b ≡ true → scalar_hash a ≡ scalar_hash b
hash_agrees (integer a) (integer b) h = ap (λ (n : ℤ). writes.u8 0 ++ writes.i64 n) (same_integer a b h)
hash_agrees (boolean true) (boolean true) h = refl
hash_agrees (boolean true) (boolean false) h = cc
hash_agrees (boolean false) (boolean true) h = cc
hash_agrees (boolean false) (boolean false) h = refl
hash_agrees (text a) (text b) h = ap (λ (bytes : List ℕ). writes.u8 2 ++ writes.str bytes) (same_text a b h)
hash_agrees (date a) (date b) h = ap (λ (n : ℤ). writes.u8 3 ++ writes.i32 n) ((signed_Decides (epoch_day a) (epoch_day b)).0 h)
hash_agrees (date_time a) (date_time b) h = ap (λ (n : ℤ). writes.u8 4 ++ writes.i128 n) ((signed_Decides (instant a) (instant b)).0 h)
hash_agrees (integer a) (boolean b) h = cc
hash_agrees (integer a) (text b) h = cc
hash_agrees (integer a) (date b) h = cc
hash_agrees (integer a) (date_time b) h = cc
hash_agrees (boolean a) (integer b) h = cc
hash_agrees (boolean a) (text b) h = cc
hash_agrees (boolean a) (date b) h = cc
hash_agrees (boolean a) (date_time b) h = cc
hash_agrees (text a) (integer b) h = cc
hash_agrees (text a) (boolean b) h = cc
hash_agrees (text a) (date b) h = cc
hash_agrees (text a) (date_time b) h = cc
hash_agrees (date a) (integer b) h = cc
hash_agrees (date a) (boolean b) h = cc
hash_agrees (date a) (text b) h = cc
hash_agrees (date a) (date_time b) h = cc
hash_agrees (date_time a) (integer b) h = cc
hash_agrees (date_time a) (boolean b) h = cc
hash_agrees (date_time a) (text b) h = cc
hash_agrees (date_time a) (date b) h = cc

pub loose_refl : (a : Scal) → scalar_eq a a ≡ true
loose_refl (integer a) = int_eq_equiv.refl a
loose_refl (boolean a) = bool_eq_equiv.refl a
loose_refl (text a) = nat_list_eq_equiv.refl a
loose_refl (date a) = int_eq_equiv.refl (epoch_day a)
loose_refl (date_time a) = int_eq_equiv.refl (instant a)

pub loose_symm : (a b : Scal) → scalar_eq a b ≡ scalar_eq b a
loose_symm (integer a) (integer b) = int_eq_equiv.symm a b
loose_symm (boolean a) (boolean b) = bool_eq_equiv.symm a b
loose_symm (text a) (text b) = nat_list_eq_equiv.symm a b
loose_symm (date a) (date b) = int_eq_equiv.symm (epoch_day a) (epoch_day b)
loose_symm (date_time a) (date_time b) = int_eq_equiv.symm (instant a) (instant b)
loose_symm (integer a) (boolean b) = refl
loose_symm (integer a) (text b) = refl
loose_symm (integer a) (date b) = refl
loose_symm (integer a) (date_time b) = refl
loose_symm (boolean a) (integer b) = refl
loose_symm (boolean a) (text b) = refl
loose_symm (boolean a) (date b) = refl
loose_symm (boolean a) (date_time b) = refl
loose_symm (text a) (integer b) = refl
loose_symm (text a) (boolean b) = refl
loose_symm (text a) (date b) = refl
loose_symm (text a) (date_time b) = refl
loose_symm (date a) (integer b) = refl
loose_symm (date a) (boolean b) = refl
loose_symm (date a) (text b) = refl
loose_symm (date a) (date_time b) = int_eq_equiv.symm (epoch_day a) (day_number b)
loose_symm (date_time a) (integer b) = refl
loose_symm (date_time a) (boolean b) = refl
loose_symm (date_time a) (text b) = refl
loose_symm (date_time a) (date b) = int_eq_equiv.symm (day_number a) (epoch_day b)

pub order_swapped : (a b : Scal) → scalar_cmp b a ≡ option_map ordering_reverse (scalar_cmp a b)
order_swapped (integer a) (integer b) = ap Some (int_cmp_total.antisymm b a)
order_swapped (boolean a) (boolean b) = ap Some (bool_cmp_total.antisymm b a)
order_swapped (text a) (text b) = ap Some (nat_list_cmp_total.antisymm b a)
order_swapped (date a) (date b) = ap Some (int_cmp_total.antisymm (epoch_day b) (epoch_day a))
order_swapped (date_time a) (date_time b) = ap Some (int_cmp_total.antisymm (instant b) (instant a))
order_swapped (integer a) (boolean b) = refl
order_swapped (integer a) (text b) = refl
order_swapped (integer a) (date b) = refl
order_swapped (integer a) (date_time b) = refl
order_swapped (boolean a) (integer b) = refl
order_swapped (boolean a) (text b) = refl
order_swapped (boolean a) (date b) = refl
order_swapped (boolean a) (date_time b) = refl
order_swapped (text a) (integer b) = refl
order_swapped (text a) (boolean b) = refl
order_swapped (text a) (date b) = refl
order_swapped (text a) (date_time b) = refl
order_swapped (date a) (integer b) = refl
order_swapped (date a) (boolean b) = refl
order_swapped (date a) (text b) = refl
order_swapped (date a) (date_time b) = ap Some (int_cmp_total.antisymm (instant b) (instant_on a b))
order_swapped (date_time a) (integer b) = refl
order_swapped (date_time a) (boolean b) = refl
order_swapped (date_time a) (text b) = refl
order_swapped (date_time a) (date b) = ap Some (int_cmp_total.antisymm (instant_on b a) (instant a))

pub equal_is_loose : (a b : Scal) → scalar_cmp a b ≡ Some Equal → scalar_eq a b ≡ true
equal_is_loose (integer a) (integer b) h = cc
equal_is_loose (boolean true) (boolean true) h = refl
equal_is_loose (boolean true) (boolean false) h = cc
equal_is_loose (boolean false) (boolean true) h = cc
equal_is_loose (boolean false) (boolean false) h = refl
equal_is_loose (text a) (text b) h = texts_ties a b ∙ cc
equal_is_loose (date a) (date b) h = cc
equal_is_loose (date_time a) (date_time b) h = cc
equal_is_loose (integer a) (boolean b) h = cc
equal_is_loose (integer a) (text b) h = cc
equal_is_loose (integer a) (date b) h = cc
equal_is_loose (integer a) (date_time b) h = cc
equal_is_loose (boolean a) (integer b) h = cc
equal_is_loose (boolean a) (text b) h = cc
equal_is_loose (boolean a) (date b) h = cc
equal_is_loose (boolean a) (date_time b) h = cc
equal_is_loose (text a) (integer b) h = cc
equal_is_loose (text a) (boolean b) h = cc
equal_is_loose (text a) (date b) h = cc
equal_is_loose (text a) (date_time b) h = cc
equal_is_loose (date a) (integer b) h = cc
equal_is_loose (date a) (boolean b) h = cc
equal_is_loose (date a) (text b) h = cc
equal_is_loose (date a) (date_time b) h = ap is_eq (sym (moved_before a b)) ∙ cc
equal_is_loose (date_time a) (integer b) h = cc
equal_is_loose (date_time a) (boolean b) h = cc
equal_is_loose (date_time a) (text b) h = cc
equal_is_loose (date_time a) (date b) h = ap is_eq (sym (moved_after b a)) ∙ cc

-- strictly equal scalars are loosely equal
pub same_is_loose : (a b : Scal) → same_scalar a b ≡ true → scalar_eq a b ≡ true
same_is_loose (integer a) (integer b) h = h
same_is_loose (boolean a) (boolean b) h = h
same_is_loose (text a) (text b) h = h
same_is_loose (date a) (date b) h = h
same_is_loose (date_time a) (date_time b) h = h
same_is_loose (integer a) (boolean b) h = cc
same_is_loose (integer a) (text b) h = cc
same_is_loose (integer a) (date b) h = cc
same_is_loose (integer a) (date_time b) h = cc
same_is_loose (boolean a) (integer b) h = cc
same_is_loose (boolean a) (text b) h = cc
same_is_loose (boolean a) (date b) h = cc
same_is_loose (boolean a) (date_time b) h = cc
same_is_loose (text a) (integer b) h = cc
same_is_loose (text a) (boolean b) h = cc
same_is_loose (text a) (date b) h = cc
same_is_loose (text a) (date_time b) h = cc
same_is_loose (date a) (integer b) h = cc
same_is_loose (date a) (boolean b) h = cc
same_is_loose (date a) (text b) h = cc
same_is_loose (date a) (date_time b) h = cc
same_is_loose (date_time a) (integer b) h = cc
same_is_loose (date_time a) (boolean b) h = cc
same_is_loose (date_time a) (text b) h = cc
same_is_loose (date_time a) (date b) h = cc
