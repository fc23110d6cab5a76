-- What a map laid over another gives, and the laws of laying maps over one another.
use Rattle.std.proofs.Common.{◌≡◌, ℕ, Bool, true, false, cond, List, [], ◌∷◌, ◌++◌, Option, Some, None, refl, ap, sym, ◌∙◌}
use Rattle.std.specs.Option.{option_or}
use Rattle.std.specs.Ordering.{nat_cmp, eq_by_cmp}
use Rattle.std.specs.Cmp.Lexicographic.{slice_cmp, nat_list_cmp_total}
use Rattle.std.specs.FinMap.{
  IsAntisymmetric,
  nat_cmp-IsAntisymmetric,
  slice_cmp-IsAntisymmetric,
  entries,
  get,
  insert,
  empty,
  get-entries,
  get-empty,
  get-insert,
  get-from_entries,
  same_map,
}
use Rattle.std.specs.FinMap.Entries.{find}
use Rattle.liquid_runtime.specs.meaning.Maps.{NameMap, over}

-- only equal names tie
pub names_apart : IsAntisymmetric (slice_cmp nat_cmp)
names_apart = slice_cmp-IsAntisymmetric nat_cmp-IsAntisymmetric

cond-option_or : {X : Type 0} (b : Bool) (x : X) (first second : Option X)
    → cond b (Some x) (option_or first second) ≡ option_or (cond b (Some x) first) second
cond-option_or true x first second = refl
cond-option_or false x first second = refl

find-append : {X : Type 0} (q : List ℕ) (front back : List (List ℕ × X))
    → find (slice_cmp nat_cmp) q (front ++ back) ≡ option_or (find (slice_cmp nat_cmp) q front) (find (slice_cmp nat_cmp) q back)
find-append q [] back = refl
find-append q (e ∷ front) back =
    ap (cond (eq_by_cmp (slice_cmp nat_cmp) q e.0) (Some e.1)) (find-append q front back)
    ∙ cond-option_or (eq_by_cmp (slice_cmp nat_cmp) q e.0) e.1 (find (slice_cmp nat_cmp) q front) (find (slice_cmp nat_cmp) q back)

-- two maps that give the same for each name are the same
pub same_names : {X : Type 0} (m n : NameMap X) → ((q : List ℕ) → get m q ≡ get n q) → m ≡ n
same_names m n alike = same_map nat_list_cmp_total names_apart m n alike

module _ {X : Type 0} where
  -- a name has its value in the left map, otherwise that in the right one
  pub get-over : (front back : NameMap X) (q : List ℕ) → get (over front back) q ≡ option_or (get front q) (get back q)
  unfolding over
  get-over front back q =
      get-from_entries nat_list_cmp_total (entries front ++ entries back) q
      ∙ find-append q (entries front) (entries back)
      ∙ ap (λ o. option_or o (find (slice_cmp nat_cmp) q (entries back))) (sym (get-entries front q))
      ∙ ap (option_or (get front q)) (sym (get-entries back q))

  option_or-option_or : (a b c : Option X) → option_or (option_or a b) c ≡ option_or a (option_or b c)
  option_or-option_or None b c = refl
  option_or-option_or (Some x) b c = refl

  pub empty-over : (m : NameMap X) → over empty m ≡ m
  empty-over m = same_names _ m (λ q. get-over empty m q ∙ ap (λ o. option_or o (get m q)) (get-empty (slice_cmp nat_cmp) q))

  -- laying maps over one another doesn't depend on the grouping
  pub over-over : (a b c : NameMap X) → over (over a b) c ≡ over a (over b c)
  over-over a b c = same_names _ _ (λ q.
      get-over (over a b) c q
      ∙ ap (λ o. option_or o (get c q)) (get-over a b q)
      ∙ option_or-option_or (get a q) (get b q) (get c q)
      ∙ ap (option_or (get a q)) (sym (get-over b c q))
      ∙ sym (get-over a (over b c) q))

  -- giving a name a value in the left map is giving it that value in the whole
  pub insert-over : (front back : NameMap X) (k : List ℕ) (x : X) → over (insert front k x) back ≡ insert (over front back) k x
  insert-over front back k x = same_names _ _ (λ q.
      get-over (insert front k x) back q
      ∙ ap (λ o. option_or o (get back q)) (get-insert nat_list_cmp_total front k x q)
      ∙ sym (cond-option_or (eq_by_cmp (slice_cmp nat_cmp) q k) x (get front q) (get back q))
      ∙ ap (cond (eq_by_cmp (slice_cmp nat_cmp) q k) (Some x)) (sym (get-over front back q))
      ∙ sym (get-insert nat_list_cmp_total (over front back) k x q))
