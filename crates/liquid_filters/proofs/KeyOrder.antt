-- The order of keys is total: that of their kinds, then of a number, then of a string.
use Rattle.std.proofs.Common.{◌≡◌, ℕ, ℤ, pos, Bool, true, false, List, [], refl, sym, ap, ◌∙◌, subst, Ordering, Less, Equal, Greater}
use Rattle.std.specs.Ordering.{nat_cmp, int_cmp, bool_cmp, ordering_then, then_cmp, on}
use Rattle.std.specs.Cmp.{IsTotalOrder, nat_cmp_total, int_cmp_total, on_total, then_total}
use Rattle.std.specs.Cmp.Lexicographic.{slice_cmp, nat_list_cmp_total}
use Rattle.jiff_core.specs.Date.{epoch_day}
use Rattle.liquid_dates.specs.meaning.Instant.{instant}
use Rattle.liquid_scalar.specs.meaning.Scalar.{Scal, integer, boolean, text, date, date_time}
use Rattle.liquid_value.specs.meaning.Tree.{Tree, nil, state, scalar, array, object}
use Rattle.liquid_filters.specs.meaning.sort.Order.{key_cmp, rank, scalar_rank}

abbrev truth_number : Bool → ℤ
truth_number true = pos 1
truth_number false = pos 0

-- the number that a key is compared by in its kind
abbrev scalar_number : Scal → ℤ
scalar_number (integer n) = n
scalar_number (boolean b) = truth_number b
scalar_number (text t) = pos 0
scalar_number (date d) = epoch_day d
scalar_number (date_time dt) = instant dt

abbrev key_number : Tree → ℤ
key_number (scalar x) = scalar_number x
key_number nil = pos 0
key_number (state s) = pos 0
key_number (array ts) = pos 0
key_number (object ms) = pos 0

-- the text that a key is compared by in its kind
abbrev scalar_text : Scal → List ℕ
scalar_text (integer n) = []
scalar_text (boolean b) = []
scalar_text (text t) = t
scalar_text (date d) = []
scalar_text (date_time dt) = []

abbrev key_text : Tree → List ℕ
key_text (scalar x) = scalar_text x
key_text nil = []
key_text (state s) = []
key_text (array ts) = []
key_text (object ms) = []

abbrev three_cmp : Tree → Tree → Ordering
three_cmp = then_cmp (on rank nat_cmp) (then_cmp (on key_number int_cmp) (on key_text (slice_cmp nat_cmp)))

three_cmp_total : IsTotalOrder three_cmp
three_cmp_total =
    then_total (on_total rank nat_cmp_total) (then_total (on_total key_number int_cmp_total) (on_total key_text nat_list_cmp_total))

then_equal : (o : Ordering) → o ≡ ordering_then o Equal
then_equal Less = refl
then_equal Equal = refl
then_equal Greater = refl

truths : (a b : Bool) → bool_cmp a b ≡ ordering_then (int_cmp (truth_number a) (truth_number b)) Equal
truths true true = refl
truths true false = refl
truths false true = refl
truths false false = refl

apart_less : (o p q : Ordering) → o ≡ Less → ordering_then o p ≡ ordering_then o q
apart_less o p q is = ap (λ r. ordering_then r p) is ∙ sym (ap (λ r. ordering_then r q) is)

apart_greater : (o p q : Ordering) → o ≡ Greater → ordering_then o p ≡ ordering_then o q
apart_greater o p q is = ap (λ r. ordering_then r p) is ∙ sym (ap (λ r. ordering_then r q) is)

before_others : (x : Scal) → nat_cmp (scalar_rank x) 5 ≡ Less
before_others (integer a) = refl
before_others (boolean a) = refl
before_others (text a) = refl
before_others (date a) = refl
before_others (date_time a) = refl

before_nil : (x : Scal) → nat_cmp (scalar_rank x) 6 ≡ Less
before_nil (integer a) = refl
before_nil (boolean a) = refl
before_nil (text a) = refl
before_nil (date a) = refl
before_nil (date_time a) = refl

after_scalars : (x : Scal) → nat_cmp 5 (scalar_rank x) ≡ Greater
after_scalars (integer a) = refl
after_scalars (boolean a) = refl
after_scalars (text a) = refl
after_scalars (date a) = refl
after_scalars (date_time a) = refl

nil_after_scalars : (x : Scal) → nat_cmp 6 (scalar_rank x) ≡ Greater
nil_after_scalars (integer a) = refl
nil_after_scalars (boolean a) = refl
nil_after_scalars (text a) = refl
nil_after_scalars (date a) = refl
nil_after_scalars (date_time a) = refl

scalars : (x y : Scal) → key_cmp (scalar x) (scalar y) ≡ three_cmp (scalar x) (scalar y)
scalars (integer a) (integer b) = then_equal _
scalars (integer a) (boolean b) = refl
scalars (integer a) (text b) = refl
scalars (integer a) (date b) = refl
scalars (integer a) (date_time b) = refl
scalars (boolean a) (integer b) = refl
scalars (boolean a) (boolean b) = truths a b
scalars (boolean a) (text b) = refl
scalars (boolean a) (date b) = refl
scalars (boolean a) (date_time b) = refl
scalars (text a) (integer b) = refl
scalars (text a) (boolean b) = refl
scalars (text a) (text b) = refl
scalars (text a) (date b) = refl
scalars (text a) (date_time b) = refl
scalars (date a) (integer b) = refl
scalars (date a) (boolean b) = refl
scalars (date a) (text b) = refl
scalars (date a) (date b) = then_equal _
scalars (date a) (date_time b) = refl
scalars (date_time a) (integer b) = refl
scalars (date_time a) (boolean b) = refl
scalars (date_time a) (text b) = refl
scalars (date_time a) (date b) = refl
scalars (date_time a) (date_time b) = then_equal _

key_cmp-three : (x y : Tree) → key_cmp x y ≡ three_cmp x y
key_cmp-three (scalar x) (scalar y) = scalars x y
key_cmp-three (scalar x) nil = apart_less _ _ _ (before_nil x)
key_cmp-three (scalar x) (state u) = apart_less _ _ _ (before_others x)
key_cmp-three (scalar x) (array us) = apart_less _ _ _ (before_others x)
key_cmp-three (scalar x) (object ns) = apart_less _ _ _ (before_others x)
key_cmp-three nil (scalar y) = apart_greater _ _ _ (nil_after_scalars y)
key_cmp-three nil nil = refl
key_cmp-three nil (state u) = refl
key_cmp-three nil (array us) = refl
key_cmp-three nil (object ns) = refl
key_cmp-three (state s) (scalar y) = apart_greater _ _ _ (after_scalars y)
key_cmp-three (state s) nil = refl
key_cmp-three (state s) (state u) = refl
key_cmp-three (state s) (array us) = refl
key_cmp-three (state s) (object ns) = refl
key_cmp-three (array ts) (scalar y) = apart_greater _ _ _ (after_scalars y)
key_cmp-three (array ts) nil = refl
key_cmp-three (array ts) (state u) = refl
key_cmp-three (array ts) (array us) = refl
key_cmp-three (array ts) (object ns) = refl
key_cmp-three (object ms) (scalar y) = apart_greater _ _ _ (after_scalars y)
key_cmp-three (object ms) nil = refl
key_cmp-three (object ms) (state u) = refl
key_cmp-three (object ms) (array us) = refl
key_cmp-three (object ms) (object ns) = refl

pub key_cmp_total : IsTotalOrder key_cmp
key_cmp_total = subst IsTotalOrder (λ i x y. sym (key_cmp-three x y) i) three_cmp_total
