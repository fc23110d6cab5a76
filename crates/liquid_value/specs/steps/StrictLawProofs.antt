-- The laws of strict equality, by pairs of kinds.
use Rattle.std.proofs.Common.{◌≡◌, ◌++◌, true, ◌&&◌, refl, ap, ◌∙◌}
use Rattle.std.specs.Prelude.{nat_eq}
use Rattle.std.proofs.lemmas.Bool.{eqb-true}
use Rattle.std.specs.Cmp.{IsEquivalence, nat_eq_equiv}
use Rattle.std.specs.Cmp.Lexicographic.{pointwise, nat_list_eq_equiv, bytes_decides}
use Rattle.std.specs.Hash as writes
use Rattle.liquid_scalar.specs.steps.ScalarLawProofs.{same_scalar_equiv, hash_agrees as scalar_hash_agrees}
use Rattle.liquid_value.specs.steps.Conjunction.{both_true, first_true, second_true}
use Rattle.liquid_value.specs.meaning.Strict.{state_code, same_value, same_items, same_members, value_hash, items_hash, members_hash}
use Rattle.liquid_value.specs.meaning.Tree.{Tree, nil, state, scalar, array, object, Items, no_items, item, Members, no_members, member}

mutual
  pub same_refl : (t : Tree) → same_value t t ≡ true
  same_refl nil = refl
  same_refl (state s) = nat_eq_equiv.refl (state_code s)
  same_refl (scalar x) = same_scalar_equiv.refl x
  same_refl (array ts) = items_refl ts
  same_refl (object ms) = members_refl ms

  items_refl : (ts : Items) → same_items ts ts ≡ true
  items_refl no_items = refl
  items_refl (item t ts) = both_true (same_refl t) (items_refl ts)

  members_refl : (ms : Members) → same_members ms ms ≡ true
  members_refl no_members = refl
  members_refl (member k t ms) = both_true (nat_list_eq_equiv.refl k) (both_true (same_refl t) (members_refl ms))

mutual
  pub same_symm : (l r : Tree) → same_value l r ≡ same_value r l
  same_symm nil nil = refl
  same_symm nil (state u) = refl
  same_symm nil (scalar y) = refl
  same_symm nil (array rs) = refl
  same_symm nil (object rs) = refl
  same_symm (state s) nil = refl
  same_symm (state s) (state u) = nat_eq_equiv.symm (state_code s) (state_code u)
  same_symm (state s) (scalar y) = refl
  same_symm (state s) (array rs) = refl
  same_symm (state s) (object rs) = refl
  same_symm (scalar x) nil = refl
  same_symm (scalar x) (state u) = refl
  same_symm (scalar x) (scalar y) = same_scalar_equiv.symm x y
  same_symm (scalar x) (array rs) = refl
  same_symm (scalar x) (object rs) = refl
  same_symm (array ls) nil = refl
  same_symm (array ls) (state u) = refl
  same_symm (array ls) (scalar y) = refl
  same_symm (array ls) (array rs) = items_symm ls rs
  same_symm (array ls) (object rs) = refl
  same_symm (object ls) nil = refl
  same_symm (object ls) (state u) = refl
  same_symm (object ls) (scalar y) = refl
  same_symm (object ls) (array rs) = refl
  same_symm (object ls) (object rs) = members_symm ls rs

  items_symm : (ls rs : Items) → same_items ls rs ≡ same_items rs ls
  items_symm no_items no_items = refl
  items_symm no_items (item r rs) = refl
  items_symm (item l ls) no_items = refl
  items_symm (item l ls) (item r rs) = ap (λ b. b && same_items ls rs) (same_symm l r) ∙ ap (λ b. same_value r l && b) (items_symm ls rs)

  members_symm : (ls rs : Members) → same_members ls rs ≡ same_members rs ls
  members_symm no_members no_members = refl
  members_symm no_members (member q r rs) = refl
  members_symm (member k l ls) no_members = refl
  members_symm (member k l ls) (member q r rs) =
      ap (λ b. b && (same_value l r && same_members ls rs)) (nat_list_eq_equiv.symm k q)
      ∙ ap (λ b. pointwise nat_eq q k && (b && same_members ls rs)) (same_symm l r)
      ∙ ap (λ b. pointwise nat_eq q k && (same_value r l && b)) (members_symm ls rs)

mutual
  -- strictly equal values compare alike with any other value
  pub same_congr : (l r other : Tree) → same_value l r ≡ true → same_value l other ≡ same_value r other
  same_congr nil nil nil same = refl
  same_congr nil nil (state v) same = refl
  same_congr nil nil (scalar z) same = refl
  same_congr nil nil (array ts) same = refl
  same_congr nil nil (object ms) same = refl
  same_congr nil (state u) other same = cc
  same_congr nil (scalar y) other same = cc
  same_congr nil (array rs) other same = cc
  same_congr nil (object rs) other same = cc
  same_congr (state s) nil other same = cc
  same_congr (state s) (state u) nil same = refl
  same_congr (state s) (state u) (state v) same = nat_eq_equiv.congr (state_code s) (state_code u) (state_code v) same
  same_congr (state s) (state u) (scalar z) same = refl
  same_congr (state s) (state u) (array ts) same = refl
  same_congr (state s) (state u) (object ms) same = refl
  same_congr (state s) (scalar y) other same = cc
  same_congr (state s) (array rs) other same = cc
  same_congr (state s) (object rs) other same = cc
  same_congr (scalar x) nil other same = cc
  same_congr (scalar x) (state u) other same = cc
  same_congr (scalar x) (scalar y) nil same = refl
  same_congr (scalar x) (scalar y) (state v) same = refl
  same_congr (scalar x) (scalar y) (scalar z) same = same_scalar_equiv.congr x y z same
  same_congr (scalar x) (scalar y) (array ts) same = refl
  same_congr (scalar x) (scalar y) (object ms) same = refl
  same_congr (scalar x) (array rs) other same = cc
  same_congr (scalar x) (object rs) other same = cc
  same_congr (array ls) nil other same = cc
  same_congr (array ls) (state u) other same = cc
  same_congr (array ls) (scalar y) other same = cc
  same_congr (array ls) (array rs) nil same = refl
  same_congr (array ls) (array rs) (state v) same = refl
  same_congr (array ls) (array rs) (scalar z) same = refl
  same_congr (array ls) (array rs) (array ts) same = items_congr ls rs ts same
  same_congr (array ls) (array rs) (object ms) same = refl
  same_congr (array ls) (object rs) other same = cc
  same_congr (object ls) nil other same = cc
  same_congr (object ls) (state u) other same = cc
  same_congr (object ls) (scalar y) other same = cc
  same_congr (object ls) (array rs) other same = cc
  same_congr (object ls) (object rs) nil same = refl
  same_congr (object ls) (object rs) (state v) same = refl
  same_congr (object ls) (object rs) (scalar z) same = refl
  same_congr (object ls) (object rs) (array ts) same = refl
  same_congr (object ls) (object rs) (object ms) same = members_congr ls rs ms same

  items_congr : (ls rs others : Items) → same_items ls rs ≡ true → same_items ls others ≡ same_items rs others
  items_congr no_items no_items others same = refl
  items_congr no_items (item r rs) others same = cc
  items_congr (item l ls) no_items others same = cc
  items_congr (item l ls) (item r rs) no_items same = refl
  items_congr (item l ls) (item r rs) (item t ts) same =
      ap (λ b. b && same_items ls ts) (same_congr l r t (first_true _ _ same)) ∙ ap (λ b. same_value r t && b)
      (items_congr ls rs ts (second_true _ _ same))

  members_congr : (ls rs others : Members) → same_members ls rs ≡ true → same_members ls others ≡ same_members rs others
  members_congr no_members no_members others same = refl
  members_congr no_members (member q r rs) others same = cc
  members_congr (member k l ls) no_members others same = cc
  members_congr (member k l ls) (member q r rs) no_members same = refl
  members_congr (member k l ls) (member q r rs) (member p t ts) same =
      ap (λ b. b && (same_value l t && same_members ls ts)) (nat_list_eq_equiv.congr k q p (first_true _ _ same))
      ∙ ap (λ b. pointwise nat_eq q p && (b && same_members ls ts)) (same_congr l r t (first_true _ _ (second_true _ _ same)))
      ∙ ap (λ b. pointwise nat_eq q p && (same_value r t && b)) (members_congr ls rs ts (second_true _ _ (second_true _ _ same)))

-- strict equality is an equivalence
pub same_value_equiv : IsEquivalence same_value
same_value_equiv = record { refl = same_refl; symm = same_symm; congr = same_congr }

mutual
  -- strictly equal values feed a hasher the same bytes
  pub hash_agrees : (l r : Tree) → same_value l r ≡ true → value_hash l ≡ value_hash r
  hash_agrees nil nil same = refl
  hash_agrees nil (state u) same = cc
  hash_agrees nil (scalar y) same = cc
  hash_agrees nil (array rs) same = cc
  hash_agrees nil (object rs) same = cc
  hash_agrees (state s) nil same = cc
  hash_agrees (state s) (state u) same = ap (λ n. writes.u8 3 ++ writes.u8 n) (eqb-true (state_code s) (state_code u) same)
  hash_agrees (state s) (scalar y) same = cc
  hash_agrees (state s) (array rs) same = cc
  hash_agrees (state s) (object rs) same = cc
  hash_agrees (scalar x) nil same = cc
  hash_agrees (scalar x) (state u) same = cc
  hash_agrees (scalar x) (scalar y) same = ap (λ h. writes.u8 0 ++ h) (scalar_hash_agrees x y same)
  hash_agrees (scalar x) (array rs) same = cc
  hash_agrees (scalar x) (object rs) same = cc
  hash_agrees (array ls) nil same = cc
  hash_agrees (array ls) (state u) same = cc
  hash_agrees (array ls) (scalar y) same = cc
  hash_agrees (array ls) (array rs) same = ap (λ h. writes.u8 1 ++ h) (items_agree ls rs same)
  hash_agrees (array ls) (object rs) same = cc
  hash_agrees (object ls) nil same = cc
  hash_agrees (object ls) (state u) same = cc
  hash_agrees (object ls) (scalar y) same = cc
  hash_agrees (object ls) (array rs) same = cc
  hash_agrees (object ls) (object rs) same = ap (λ h. writes.u8 2 ++ h) (members_agree ls rs same)

  items_agree : (ls rs : Items) → same_items ls rs ≡ true → items_hash ls ≡ items_hash rs
  items_agree no_items no_items same = refl
  items_agree no_items (item r rs) same = cc
  items_agree (item l ls) no_items same = cc
  items_agree (item l ls) (item r rs) same =
      ap (λ h. h ++ items_hash ls) (hash_agrees l r (first_true _ _ same)) ∙ ap (λ h. value_hash r ++ h)
      (items_agree ls rs (second_true _ _ same))

  members_agree : (ls rs : Members) → same_members ls rs ≡ true → members_hash ls ≡ members_hash rs
  members_agree no_members no_members same = refl
  members_agree no_members (member q r rs) same = cc
  members_agree (member k l ls) no_members same = cc
  members_agree (member k l ls) (member q r rs) same =
      ap (λ name. (writes.str name ++ value_hash l) ++ members_hash ls) ((bytes_decides k q).0 (first_true _ _ same))
      ∙ ap (λ h. (writes.str q ++ h) ++ members_hash ls) (hash_agrees l r (first_true _ _ (second_true _ _ same)))
      ∙ ap (λ h. (writes.str q ++ value_hash r) ++ h) (members_agree ls rs (second_true _ _ (second_true _ _ same)))
