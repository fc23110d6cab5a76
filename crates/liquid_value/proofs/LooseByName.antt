-- Loose equality of objects is decided by their names.
use Rattle.std.proofs.Common.{
  ◌≡◌,
  ℕ,
  suc,
  ◌≤◌,
  List,
  Bool,
  true,
  false,
  ◌&&◌,
  Some,
  None,
  Ordering,
  Less,
  Equal,
  Greater,
  refl,
  sym,
  ap,
  ◌∙◌,
  arith,
  rules,
  true≢false,
}
use Rattle.std.proofs.lemmas.Bool.{eqb-true}
use Rattle.std.specs.Prelude.{◌==◌}
use Rattle.std.specs.Ordering.{nat_cmp, is_eq, is_lt, match_ordering, ordering_reverse}
use Rattle.std.specs.Cmp.Lexicographic.{slice_cmp, nat_list_cmp_total, texts_ties, bytes_decides}
use Rattle.liquid_value.specs.steps.Conjunction.{both_true, first_true, second_true}
use Rattle.liquid_value.specs.meaning.Loose.{facing, members_facing, value_eq}
use Rattle.liquid_value.specs.laws.LooseLaws.{comes_before, in_name_order, equal_back, each_is_in, objects_equal_by_name}
use Rattle.liquid_value.specs.meaning.Members.{get_member, member_count}
use Rattle.liquid_value.specs.meaning.Tree.{Tree, Members, no_members, member}
use Rattle.liquid_value.proofs.LooseEquality.{facing_back}

less : (o : Ordering) → is_lt o ≡ true → o ≡ Less
less Less h = refl
less Equal h = cc
less Greater h = cc

-- a name before another that is before all of these is itself before all of these
before_later : (k q : List ℕ) (ms : Members) → slice_cmp nat_cmp k q ≡ Less → comes_before q ms ≡ true → comes_before k ms ≡ true
before_later k q no_members h later = refl
before_later k q (member p t ms) h later =
    both_true
    (ap is_lt (nat_list_cmp_total.trans k q p h (less _ (first_true (is_lt (slice_cmp nat_cmp q p)) (comes_before q ms) later))))
    (before_later k q ms h (second_true (is_lt (slice_cmp nat_cmp q p)) (comes_before q ms) later))

-- a name that is before all of these is not one of them
none_before : (k : List ℕ) (ms : Members) → comes_before k ms ≡ true → get_member k ms ≡ None
none_before k no_members h = refl
none_before k (member q t ms) h =
    let first : slice_cmp nat_cmp k q ≡ Less = less _ (first_true (is_lt (slice_cmp nat_cmp k q)) (comes_before k ms) h) in
    rw first (none_before k ms (second_true (is_lt (slice_cmp nat_cmp k q)) (comes_before k ms) h))

-- names after `q` are not looked up at `q`
skip_first : (q : List ℕ) (r : Tree) (rs ls : Members) → comes_before q ls ≡ true → each_is_in ls (member q r rs) ≡ each_is_in ls rs
skip_first q r rs no_members h = refl
skip_first q r rs (member k l ls) h =
    let following : slice_cmp nat_cmp k q ≡ Greater =
    nat_list_cmp_total.antisymm k q ∙ ap ordering_reverse (less _ (first_true (is_lt (slice_cmp nat_cmp q k)) (comes_before q ls) h)) in
    ap (λ found. equal_back l found && each_is_in ls (member q r rs))
    (ap (λ o. match_ordering o (get_member k rs) (Some r) (get_member k rs)) following)
    ∙ ap (λ b. equal_back l (get_member k rs) && b)
    (skip_first q r rs ls (second_true (is_lt (slice_cmp nat_cmp q k)) (comes_before q ls) h))

same_name : (k q : List ℕ) → slice_cmp nat_cmp k q ≡ Equal → k ≡ q
same_name k q e = (bytes_decides k q).0 (texts_ties k q ∙ ap is_eq e)

and_false : (b : Bool) → b && false ≡ false
and_false true = refl
and_false false = refl

-- if a name is before those of the right, it is not among them
not_found : (p q : List ℕ) (l r : Tree) (rs : Members) (rest : Bool) → slice_cmp nat_cmp p q ≡ Less
    → in_name_order (member q r rs) ≡ true → equal_back l (get_member p (member q r rs)) && rest ≡ false
not_found p q l r rs rest before ordered =
    let following : comes_before q rs ≡ true = first_true (comes_before q rs) (in_name_order rs) ordered in
    let nothing : get_member p (member q r rs) ≡ None = none_before p (member q r rs)
    (both_true (ap is_lt before) (before_later p q rs before following)) in
    ap (λ found. equal_back l found && rest) nothing

-- if a name is after the first of the right, that first one is never looked up
first_unasked : (p q : List ℕ) (l r : Tree) (ls rs : Members) → slice_cmp nat_cmp p q ≡ Greater → in_name_order (member p l ls) ≡ true
    → each_is_in (member p l ls) (member q r rs) ≡ each_is_in (member p l ls) rs
first_unasked p q l r ls rs following ordered =
    let before : slice_cmp nat_cmp q p ≡ Less = nat_list_cmp_total.antisymm q p ∙ ap ordering_reverse following in
    skip_first q r rs (member p l ls) (both_true (ap is_lt before)
    (before_later q p ls before (first_true (comes_before p ls) (in_name_order ls) ordered)))

-- if the two first names are the same, none of the others looks up the first of the right
rest_unasked : (p q : List ℕ) (l r : Tree) (ls rs : Members) → slice_cmp nat_cmp p q ≡ Equal → in_name_order (member p l ls) ≡ true
    → each_is_in ls (member q r rs) ≡ each_is_in ls rs
rest_unasked p q l r ls rs tie ordered =
    skip_first q r rs ls (ap (λ name. comes_before name ls) (sym (same_name p q tie))
    ∙ first_true (comes_before p ls) (in_name_order ls) ordered)

no_more_at : (o : Ordering) (p q : List ℕ) (l r : Tree) (ls rs : Members) → slice_cmp nat_cmp p q ≡ o
    → in_name_order (member p l ls) ≡ true → in_name_order (member q r rs) ≡ true
    → each_is_in (member p l ls) (member q r rs) ≡ true
    → ((others : Members) → in_name_order others ≡ true → each_is_in others rs ≡ true → member_count others ≤ member_count rs)
    → member_count (member p l ls) ≤ member_count (member q r rs)
no_more_at Less p q l r ls rs is h k found fewer =
    absurd (true≢false (sym found ∙ not_found p q l r rs (each_is_in ls (member q r rs)) is k))
no_more_at Equal p q l r ls rs is h k found fewer =
    let rest : each_is_in ls (member q r rs) ≡ true = second_true (equal_back l (get_member p (member q r rs)))
    (each_is_in ls (member q r rs)) found in
    let le : member_count ls ≤ member_count rs = fewer ls (second_true (comes_before p ls) (in_name_order ls) h)
    (sym (rest_unasked p q l r ls rs is h) ∙ rest) in
    omega arith
no_more_at Greater p q l r ls rs is h k found fewer =
    let le : member_count (member p l ls) ≤ member_count rs = fewer (member p l ls) h (sym (first_unasked p q l r ls rs is h) ∙ found) in
    omega arith

no_more_than : (q : List ℕ) (r : Tree) (rs ls : Members) → in_name_order ls ≡ true → in_name_order (member q r rs) ≡ true
    → each_is_in ls (member q r rs) ≡ true
    → ((others : Members) → in_name_order others ≡ true → each_is_in others rs ≡ true → member_count others ≤ member_count rs)
    → member_count ls ≤ member_count (member q r rs)
no_more_than q r rs no_members h k found fewer = omega arith
no_more_than q r rs (member p l ls) h k found fewer = no_more_at _ p q l r ls rs refl h k found fewer

more_than_none : (ls : Members) → each_is_in ls no_members ≡ true → member_count ls ≤ 0
more_than_none no_members found = omega arith
more_than_none (member p l ls) found = cc

-- if the names of the left are all in the right, the left has no more of them
no_more : (rs ls : Members) → in_name_order ls ≡ true → in_name_order rs ≡ true → each_is_in ls rs ≡ true
    → member_count ls ≤ member_count rs
no_more no_members ls h k found = more_than_none ls found
no_more (member q r rs) ls h k found =
    no_more_than q r rs ls h k found (λ others ordered in_rest. no_more rs others ordered
    (second_true (comes_before q rs) (in_name_order rs) k) in_rest)

suc_eq : (m n : ℕ) → (suc m == suc n) ≡ (m == n)
suc_eq m n = search rules

uneven_or_not_in : (p q : List ℕ) (l r : Tree) (ls rs : Members) → slice_cmp nat_cmp p q ≡ Greater → in_name_order (member p l ls) ≡ true
    → in_name_order (member q r rs) ≡ true
    → (b : Bool) → objects_equal_by_name (member p l ls) (member q r rs) ≡ b → b ≡ false
uneven_or_not_in p q l r ls rs following h k false e = refl
uneven_or_not_in p q l r ls rs following h k true e =
    let sizes : member_count (member p l ls) ≡ member_count (member q r rs) =
    eqb-true _ _ (first_true (member_count (member p l ls) == member_count (member q r rs))
    (each_is_in (member p l ls) (member q r rs)) e) in
    let found : each_is_in (member p l ls) (member q r rs) ≡ true =
    second_true (member_count (member p l ls) == member_count (member q r rs)) (each_is_in (member p l ls) (member q r rs)) e in
    let le : member_count (member p l ls) ≤ member_count rs = no_more rs (member p l ls) h
    (second_true (comes_before q rs) (in_name_order rs) k) (sym (first_unasked p q l r ls rs following h) ∙ found) in
    absurd (omega arith)

move_test : (a b c : Bool) → a && (b && c) ≡ b && (a && c)
move_test true true c = refl
move_test true false c = refl
move_test false true c = refl
move_test false false c = refl

by_name_at : (o : Ordering) (p q : List ℕ) (l r : Tree) (ls rs : Members) → slice_cmp nat_cmp p q ≡ o
    → in_name_order (member p l ls) ≡ true → in_name_order (member q r rs) ≡ true
    → members_facing true ls rs ≡ objects_equal_by_name ls rs → members_facing true (member p l ls)
    (member q r rs) ≡ objects_equal_by_name (member p l ls) (member q r rs)
by_name_at Less p q l r ls rs is h k same =
    ap (λ b. b && (facing false l r && members_facing true ls rs)) (texts_ties p q ∙ ap is_eq is)
    ∙ sym (ap (λ b. (member_count (member p l ls) == member_count (member q r rs)) && b)
    (not_found p q l r rs (each_is_in ls (member q r rs)) is k) ∙ and_false _)
by_name_at Equal p q l r ls rs is h k same =
    ap (λ b. b && (facing false l r && members_facing true ls rs)) (texts_ties p q ∙ ap is_eq is)
    ∙ ap (λ b. b && members_facing true ls rs) (facing_back l r)
    ∙ ap (λ b. value_eq r l && b) same
    ∙ move_test (value_eq r l) (member_count ls == member_count rs) (each_is_in ls rs)
    ∙ ap (λ b. b && (value_eq r l && each_is_in ls rs)) (sym (suc_eq (member_count ls) (member_count rs)))
    ∙ ap (λ b. (member_count (member p l ls) == member_count (member q r rs)) && (value_eq r l && b))
    (sym (rest_unasked p q l r ls rs is h))
    ∙ ap (λ o. (member_count (member p l ls) == member_count (member q r rs)) &&
    (equal_back l (match_ordering o (get_member p rs) (Some r) (get_member p rs)) && each_is_in ls (member q r rs))) (sym is)
by_name_at Greater p q l r ls rs is h k same =
    ap (λ b. b && (facing false l r && members_facing true ls rs)) (texts_ties p q ∙ ap is_eq is)
    ∙ sym (uneven_or_not_in p q l r ls rs is h k _ refl)

-- loose equality of objects is decided by their names
pub by_name : (ls rs : Members) → in_name_order ls ≡ true → in_name_order rs ≡ true
    → members_facing true ls rs ≡ objects_equal_by_name ls rs
by_name no_members no_members h k = refl
by_name no_members (member q r rs) h k = search rules
by_name (member p l ls) no_members h k = search rules
by_name (member p l ls) (member q r rs) h k =
    by_name_at _ p q l r ls rs refl h k (by_name ls rs (second_true (comes_before p ls) (in_name_order ls) h)
    (second_true (comes_before q rs) (in_name_order rs) k))
