-- What a store that keeps its results finds, has kept and parses.
use Rattle.std.proofs.Common.{◌≡◌, ℕ, suc, ◌+◌, ◌≤◌, Bool, true, false, cond, List, [], ◌∷◌, ◌++◌, length, Option, Some, None, is_some}
use Rattle.std.proofs.Common.{Result, map, refl, sym, ap, ◌∙◌, subst, arith, append_assoc}
use Rattle.std.specs.Prelude.{String, option_map, not, ◌&&◌, ◌||◌, Ok, Err, OnOk, OnErr}
use Rattle.std.specs.BTreeMap.{BTreeMap, IsEmpty}
use Rattle.std.specs.Cmp.{tied_itself}
use Rattle.std.specs.Cmp.Lexicographic.{slice_cmp, nat_list_cmp_total}
use Rattle.std.specs.FinMap.{contains_key, contains_key-keys, empty, entries, get, get-empty, get-insert, get_tied, insert, keys, len}
use Rattle.std.specs.FinMap.{len-empty, len-entries, len-insert}
use Rattle.std.specs.List.{list_any}
use Rattle.std.specs.Option.{option_or}
use Rattle.std.specs.Ordering.{nat_cmp, is_eq, eq_by_cmp}
use Rattle.std.specs.declared.alloc.AllocError.{AllocError}
use Rattle.std.specs.declared.alloc.Global.{Global}
use Rattle.std.specs.declared.cmp.Ordering.{Ordering}
use Rattle.std.specs.declared.cmp.Ordering.TheVariants.{Less, Equal, Greater}
use Rattle.liquid_error.specs.declared.error.Error.{Error}
use Rattle.liquid_error.specs.meaning.Refusal.{Refusal}
use Rattle.liquid_runtime.specs.meaning.Maps.{NameMap, over}
use Rattle.liquid_runtime.proofs.MapLaws.{same_names, get-over, empty-over, insert-over}
use Rattle.liquid_plugins.specs.meaning.Registry.{by_name}
use Rattle.liquid_plugins.specs.meaning.Nodes.{Nodes}
use Rattle.liquid_parser.specs.meaning.Lang.{Lang}
use Rattle.liquid_partials.specs.meaning.Compiled.{Compiled, once}
use Rattle.liquid_partials.specs.meaning.Keeping.{is_read, kept_after}
use Rattle.liquid_partials.specs.meaning.Kept.{all_kept, kept_as, kept_or_read, readings, HasAll, Known}
use Rattle.liquid_partials.specs.meaning.Sources.{Texts}
use Rattle.liquid_partials.proofs.EachLemmas.{contains-each, empty-named, get-each, keys-each}
use Rattle.liquid_partials.proofs.StoreLemmas.{compiled, contains-readings}

abbrev names_eq : List ℕ → List ℕ → Bool
names_eq = eq_by_cmp (slice_cmp nat_cmp)

abbrev Untrue : Bool → Type 0
Untrue true = ⊥
Untrue false = Unit {0}

untrue : {C : Type 0} (b : Bool) → b ≡ false → b ≡ true → C
untrue b e f = absurd (subst Untrue (sym e ∙ f) tt)

tied : (r : Ordering) → is_eq r ≡ true → r ≡ Equal
tied Less e = absurd (subst Untrue e tt)
tied Equal e = refl
tied Greater e = absurd (subst Untrue e tt)

cond_once : (c : Bool) (n : ℕ) → cond c n (n + 1) ≡ n + once (not c)
cond_once true n = omega arith
cond_once false n = refl

once_most : (r : Bool) (n : ℕ) → n + once r ≤ n + 1
once_most true n = omega arith
once_most false n = omega arith

module _ {X : Type 0} where
  -- equal names have the same value
  pub same_name : (m : NameMap X) (q name : List ℕ) → names_eq q name ≡ true → get m q ≡ get m name
  same_name m q name e = sym (get_tied nat_list_cmp_total m q name (tied _ e))

  cond_same : (b : Bool) (v r : Option X) → (b ≡ true → r ≡ v) → cond b v r ≡ r
  cond_same true v r h = sym (h refl)
  cond_same false v r h = refl

  -- giving a name the value that it has changes nothing
  pub insert-again : (m : NameMap X) (q : List ℕ) (a : X) → get m q ≡ Some a → insert m q a ≡ m
  insert-again m q a e =
      same_names _ m (λ r. get-insert nat_list_cmp_total m q a r ∙ cond_same (names_eq r q) (Some a) (get m r) (λ t. same_name m r q t ∙ e))

  pub found_kept : (kept found : NameMap X) (q : List ℕ) (a : X) → Some a ≡ get kept q → get (over kept found) q ≡ Some a
  found_kept kept found q a e = get-over kept found q ∙ ap (λ o. option_or o (get found q)) (sym e)

  pub found_unkept : (kept found : NameMap X) (q : List ℕ) → None ≡ get kept q → get (over kept found) q ≡ get found q
  found_unkept kept found q e = get-over kept found q ∙ ap (λ o. option_or o (get found q)) (sym e)

  -- what a kept name was kept as is not lost
  pub over_more : (kept found : NameMap X) (q : List ℕ) (a : X) → get (over kept found) q ≡ Some a
      → over (insert kept q a) found ≡ over kept found
  over_more kept found q a e = insert-over kept found q a ∙ insert-again (over kept found) q a e

  abbrev after : NameMap X → List ℕ → Option X → NameMap X
  after kept name found = elim found [ None ↦ kept | Some answer ↦ insert kept name answer ]

  -- a request for a name that is kept keeps nothing more
  pub kept_stays : (b : Bool) (kept found : NameMap X) (q : List ℕ) (a : X) → Some a ≡ get kept q
      → kept ≡ kept_after b (over kept found) q kept
  kept_stays false kept found q a e = refl
  kept_stays true kept found q a e = sym (insert-again kept q a (sym e)) ∙ ap (after kept q) (sym (found_kept kept found q a e))

  -- nor does one for an unknown name
  pub absent_stays : (b : Bool) (finds kept : NameMap X) (q : List ℕ) → get finds q ≡ None → kept ≡ kept_after b finds q kept
  absent_stays false finds kept q e = refl
  absent_stays true finds kept q e = ap (after kept q) (sym e)

  -- one for another name keeps what is found
  pub newly_kept : (finds kept : NameMap X) (q : List ℕ) (a : X) → get finds q ≡ Some a → insert kept q a ≡ kept_after true finds q kept
  newly_kept finds kept q a e = ap (after kept q) (sym e)

  len-found : (o : Option X) (kept : NameMap X) (q : List ℕ) → len (after kept q o) ≡ len kept + once
      (is_some o && not (contains_key kept q))
  len-found None kept q = omega arith
  len-found (Some a) kept q = len-insert nat_list_cmp_total kept q a ∙ cond_once (contains_key kept q) (len kept)

  -- a request with a result keeps one more if it parses a text
  pub len-kept_after : (finds kept : NameMap X) (q : List ℕ) → len (kept_after true finds q kept) ≡ len kept + once (is_read finds kept q)
  len-kept_after finds kept q = len-found (get finds q) kept q

  -- a request parses no more texts than it keeps and than it is out of memory
  pub reads_few : (b : Bool) (finds kept : NameMap X) (q : List ℕ)
      → len kept + once (is_read finds kept q) ≤ len (kept_after b finds q kept) + once (not b)
  reads_few true finds kept q = let e = len-kept_after finds kept q in omega (arith, e)
  reads_few false finds kept q = once_most (is_read finds kept q) (len kept)

  is_some-insert : (m : NameMap X) (k : List ℕ) (a : X) (q : List ℕ) → contains_key m q ≡ true → contains_key (insert m k a) q ≡ true
  is_some-insert m k a q e = ap is_some (get-insert nat_list_cmp_total m k a q) ∙ go (names_eq q k)
    where
      go : (b : Bool) → is_some (cond b (Some a) (get m q)) ≡ true
      go true = refl
      go false = e

  still_found : (o : Option X) (kept : NameMap X) (name q : List ℕ) → contains_key kept q ≡ true → contains_key (after kept name o) q ≡ true
  still_found None kept name q e = e
  still_found (Some a) kept name q e = is_some-insert kept name a q e

  -- what was kept stays kept
  pub still_kept : (b : Bool) (finds kept : NameMap X) (name q : List ℕ) → contains_key kept q ≡ true
      → contains_key (kept_after b finds name kept) q ≡ true
  still_kept true finds kept name q e = still_found (get finds name) kept name q e
  still_kept false finds kept name q e = e

  -- a request with a result keeps a name that the source has
  pub now_kept : (finds kept : NameMap X) (name : List ℕ) → contains_key finds name ≡ true
      → contains_key (kept_after true finds name kept) name ≡ true
  now_kept finds kept name e = go (get finds name) e
    where
      go : (o : Option X) → is_some o ≡ true → contains_key (after kept name o) name ≡ true
      go None t = absurd (subst Untrue t tt)
      go (Some a) t =
          ap is_some (get-insert nat_list_cmp_total kept name a name) ∙ ap (λ b. is_some (cond b (Some a) (get kept name)))
          (ap is_eq (tied_itself nat_list_cmp_total name))

  -- nothing is parsed for a name that is kept
  pub not_read : (finds kept : NameMap X) (q : List ℕ) (a : X) (n : ℕ) → Some a ≡ get kept q → n ≡ n + once (is_read finds kept q)
  not_read finds kept q a n e = none_more (is_some (get finds q)) n ∙ ap (λ o. n + once (is_some (get finds q) && not (is_some o))) e
    where
      none_more : (b : Bool) (n : ℕ) → n ≡ n + once (b && false)
      none_more true n = omega arith
      none_more false n = omega arith

  pub unkept : (m : NameMap X) (q : List ℕ) → contains_key m q ≡ false → None ≡ get m q
  unkept m q e = go (get m q) e
    where
      go : (o : Option X) → is_some o ≡ false → None ≡ o
      go None t = refl
      go (Some a) t = absurd (subst Untrue (sym t) tt)

both : (b c : Bool) → (b ≡ true → c ≡ true) → (c ≡ true → b ≡ true) → b ≡ c
both true c h k = sym (h refl)
both false true h k = k refl
both false false h k = refl

any_last : {X : Type 0} (test : X → Bool) (xs : List X) (x : X) → list_any test (xs ++ x ∷ []) ≡ (list_any test xs || test x)
any_last test [] x = go (test x)
  where
    go : (b : Bool) → (b || false) ≡ b
    go true = refl
    go false = refl
any_last test (y ∷ xs) x = go (test y) (any_last test xs x)
  where
    go : (b : Bool) → list_any test (xs ++ x ∷ []) ≡ (list_any test xs || test x)
        → (b || list_any test (xs ++ x ∷ [])) ≡ ((b || list_any test xs) || test x)
    go true e = refl
    go false e = e

any_here : {X : Type 0} (test : X → Bool) (xs : List X) (x : X) (ys : List X) → test x ≡ true → list_any test (xs ++ x ∷ ys) ≡ true
any_here test [] x ys e = ap (λ b. b || list_any test ys) e
any_here test (y ∷ xs) x ys e = go (test y) (any_here test xs x ys e)
  where
    go : (b : Bool) → list_any test (xs ++ x ∷ ys) ≡ true → (b || list_any test (xs ++ x ∷ ys)) ≡ true
    go true k = refl
    go false k = k

-- a property of the front and of the last name
by_last : (last front c : Bool) → (front || last) ≡ true → (front ≡ true → c ≡ true) → (last ≡ true → c ≡ true) → c ≡ true
by_last last true c t f g = f refl
by_last last false c t f g = g t

append_none : {X : Type 0} (xs : List X) → xs ++ [] ≡ xs
append_none [] = refl
append_none (x ∷ xs) = ap (λ ys. x ∷ ys) (append_none xs)

length_map : {X Y : Type 0} (f : X → Y) (xs : List X) → length (map f xs) ≡ length xs
length_map f [] = refl
length_map f (x ∷ xs) = ap (λ n. suc n) (length_map f xs)

module _ {X Y : Type 0} where
  alike : (o : Option X) (p : Option Y) → is_some o ≡ is_some p → option_map (λ _. tt {0}) o ≡ option_map (λ _. tt {0}) p
  alike None None e = refl
  alike None (Some y) e = absurd (subst Untrue e tt)
  alike (Some x) None e = absurd (subst Untrue (sym e) tt)
  alike (Some x) (Some y) e = refl

  -- maps that have the same names list the same names
  pub same_keys : (m : NameMap X) (n : NameMap Y) → ((q : List ℕ) → contains_key m q ≡ contains_key n q) → keys m ≡ keys n
  same_keys m n h =
      sym (keys-each (λ _. tt {0}) m)
      ∙ ap keys (same_names _ _ (λ q. get-each (λ _. tt {0}) m q ∙ alike (get m q) (get n q) (h q) ∙ sym (get-each (λ _. tt {0}) n q)))
      ∙ keys-each (λ _. tt {0}) n

  -- and are as long
  pub same_len : (m : NameMap X) (n : NameMap Y) → ((q : List ℕ) → contains_key m q ≡ contains_key n q) → len m ≡ len n
  same_len m n h =
      len-entries m
      ∙ sym (length_map (λ e. e.0) (entries m))
      ∙ ap length (same_keys m n h)
      ∙ length_map (λ e. e.0) (entries n)
      ∙ sym (len-entries n)

is_some-or : {X : Type 0} (o p : Option X) (c : Bool) → is_some p ≡ c → (is_some o ≡ true → c ≡ true) → is_some (option_or o p) ≡ c
is_some-or None p c e h = e
is_some-or (Some x) p c e h = sym (h refl)

contains-all_kept : {A F T B : Type 0} (of : A → Nodes F T B) (kept : BTreeMap (String Global) (Result A Error)) (q : List ℕ)
    → contains_key (all_kept of kept) q ≡ contains_key (by_name kept) q
contains-all_kept of kept q = contains-each (kept_as of) (by_name kept) q

-- what was parsed while all names of a source are requested one after another
module _ {A F T B : Type 0} (of : A → Nodes F T B) (texts : Texts) where
  -- these names are kept, the rest is left, and as many texts were parsed as names are kept
  pub record ReadSoFar (kept : BTreeMap (String Global) (Result A Error)) (count : ℕ) (rest : List (List ℕ)) : Type 0 where
    pub front : List (List ℕ)
    pub whole : front ++ rest ≡ keys texts
    pub has : (q : List ℕ) → list_any (names_eq q) front ≡ true → contains_key (all_kept of kept) q ≡ true
    pub counted : count ≡ len (all_kept of kept)

  pub read_none : (kept : BTreeMap (String Global) (Result A Error)) (count : ℕ) (rest : List (List ℕ)) → all_kept of kept ≡ empty
      → count ≡ 0 → rest ≡ keys texts → ReadSoFar kept count rest
  read_none kept count rest none z e = record {
    front = [];
    whole = e;
    has = λ q t. absurd (subst Untrue t tt);
    counted = z ∙ sym (ap len none ∙ len-empty (slice_cmp nat_cmp) _);
  }

  front_whole : (kept : BTreeMap (String Global) (Result A Error)) (n : ℕ) (so_far : ReadSoFar kept n []) → so_far.front ≡ keys texts
  front_whole kept n so_far = sym (append_none so_far.front) ∙ so_far.whole

  pub read_all : (kept : BTreeMap (String Global) (Result A Error)) (n : ℕ) → ReadSoFar kept n [] → HasAll kept texts
  read_all kept n so_far q t =
      sym (contains-all_kept of kept q) ∙ so_far.has q (ap (list_any (names_eq q)) (front_whole kept n so_far)
      ∙ sym (contains_key-keys texts q) ∙ t)

  pub all_counted : (kept : BTreeMap (String Global) (Result A Error)) (n : ℕ) → Known kept texts → ReadSoFar kept n [] → n ≡ len texts
  all_counted kept n known so_far =
      so_far.counted ∙ same_len (all_kept of kept) texts (λ q. contains-all_kept of kept q
      ∙ both (contains_key (by_name kept) q) (contains_key texts q) (known q) (read_all kept n so_far q))

module _ {A F T P B : Type 0} (of : A → Nodes F T B) (l : Lang F T P B) (texts : Texts) where
  -- the names of the source are those of the store
  pub contains-known : (kept : BTreeMap (String Global) (Result A Error)) → Known kept texts → (q : List ℕ)
      → contains_key (kept_or_read of l kept texts) q ≡ contains_key texts q
  contains-known kept known q =
      ap is_some (get-over (all_kept of kept) (readings l texts) q)
      ∙ is_some-or (get (all_kept of kept) q) (get (readings l texts) q) (contains_key texts q) (contains-readings l texts q)
      (λ t. known q (sym (contains-all_kept of kept q) ∙ t))

  pub keys-known : (kept : BTreeMap (String Global) (Result A Error)) → Known kept texts → keys (kept_or_read of l kept texts) ≡ keys texts
  keys-known kept known = same_keys (kept_or_read of l kept texts) texts (contains-known kept known)

  -- a store that has kept nothing
  pub known-empty : (kept : BTreeMap (String Global) (Result A Error)) → IsEmpty kept → Known kept texts
  known-empty kept none q t =
      untrue (contains_key (by_name kept) q) (sym (contains-all_kept of kept q)
      ∙ ap is_some (ap (λ m. get m q) (empty-named (kept_as of) kept none) ∙ get-empty (slice_cmp nat_cmp) q)) t

  pub compiled-empty : (kept : BTreeMap (String Global) (Result A Error)) → IsEmpty kept → Compiled l texts (kept_or_read of l kept texts)
  compiled-empty kept none =
      subst (Compiled l texts) (sym (ap (λ m. over m (readings l texts)) (empty-named (kept_as of) kept none)
      ∙ empty-over (readings l texts))) (compiled l texts)

  -- the names that are kept are the source's, after one more name
  pub known-insert : (old new : BTreeMap (String Global) (Result A Error)) (name : List ℕ) (answer : Result (Nodes F T B) Refusal)
      → Known old texts
      → all_kept of new ≡ insert (all_kept of old) name answer → contains_key texts name ≡ true → Known new texts
  known-insert old new name answer known e there q t =
      go (names_eq q name) refl (sym (ap is_some (ap (λ m. get m q) e ∙ get-insert nat_list_cmp_total (all_kept of old) name answer q))
      ∙ contains-all_kept of new q ∙ t)
    where
      go : (b : Bool) → names_eq q name ≡ b → is_some (cond b (Some answer) (get (all_kept of old) q)) ≡ true → contains_key texts q ≡ true
      go true same u = ap is_some (same_name texts q name same) ∙ there
      go false same u = known q (sym (contains-all_kept of old q) ∙ u)

  pub known-same : (old new : BTreeMap (String Global) (Result A Error)) → Known old texts → all_kept of new ≡ all_kept of old
      → Known new texts
  known-same old new known e q t =
      known q (sym (contains-all_kept of old q) ∙ ap (λ m. contains_key m q) (sym e) ∙ contains-all_kept of new q ∙ t)

  pub known-kept : (old new : BTreeMap (String Global) (Result A Error)) (name : List ℕ) (answer : Result A Error)
      (r : Result (Unit {0}) AllocError) → Known old texts
      → OnOk r (all_kept of new ≡ insert (all_kept of old) name (kept_as of answer)) → OnErr r (all_kept of new ≡ all_kept of old)
      → Some (kept_as of answer) ≡ get (readings l texts) name → Known new texts
  known-kept old new name answer (Ok u) known ok err read =
      known-insert old new name (kept_as of answer) known ok (sym (contains-readings l texts name) ∙ ap is_some (sym read))
  known-kept old new name answer (Err e) known ok err read = known-same old new known err

  -- for a name for which nothing is kept, the result of parsing its text is found, and one text is parsed if the source
  -- has the name
  module _ (old : BTreeMap (String Global) (Result A Error)) (known : Known old texts) (name : List ℕ)
      (no : contains_key (all_kept of old) name ≡ false) where
    pub read_found : (o : Option (Result (Nodes F T B) Refusal)) → o ≡ get (readings l texts) name
        → o ≡ get (kept_or_read of l old texts) name
    read_found o e = e ∙ sym (found_unkept (all_kept of old) (readings l texts) name (unkept (all_kept of old) name no))

    pub read_once : contains_key texts name ≡ is_read (kept_or_read of l old texts) (all_kept of old) name
    read_once =
        and_true (contains_key texts name) ∙ sym (ap (λ b. b && not (contains_key (all_kept of old) name)) (contains-known old known name)
        ∙ ap (λ c. contains_key texts name && not c) no)
      where
        and_true : (b : Bool) → b ≡ (b && true)
        and_true true = refl
        and_true false = refl

    -- then its result is kept
    module _ (new : BTreeMap (String Global) (Result A Error)) (copy answer : Result A Error)
        (e : all_kept of new ≡ insert (all_kept of old) name (kept_as of copy)) (same : kept_as of copy ≡ kept_as of answer)
        (read : Some (kept_as of answer) ≡ get (readings l texts) name) where
      inserted : all_kept of new ≡ insert (all_kept of old) name (kept_as of answer)
      inserted = e ∙ ap (insert (all_kept of old) name) same

      pub kept_same : kept_or_read of l new texts ≡ kept_or_read of l old texts
      kept_same =
          ap (λ m. over m (readings l texts)) inserted ∙ over_more (all_kept of old) (readings l texts) name (kept_as of answer)
          (sym (read_found (Some (kept_as of answer)) read))

      pub kept_keeps : all_kept of new ≡ kept_after true (kept_or_read of l old texts) name (all_kept of old)
      kept_keeps =
          inserted ∙ newly_kept (kept_or_read of l old texts) (all_kept of old) name (kept_as of answer)
          (sym (read_found (Some (kept_as of answer)) read))

  -- after any request all names of the source are still kept
  pub has-after : (old new : BTreeMap (String Global) (Result A Error)) (b : Bool) (name : List ℕ) → HasAll old texts
      → all_kept of new ≡ kept_after b (kept_or_read of l old texts) name (all_kept of old) → HasAll new texts
  has-after old new b name has e q t =
      sym (contains-all_kept of new q) ∙ ap (λ m. contains_key m q) e
      ∙ still_kept b (kept_or_read of l old texts) (all_kept of old) name q (contains-all_kept of old q ∙ has q t)

  -- if all names of the source are kept, no request parses a text
  none_read : (kept : BTreeMap (String Global) (Result A Error)) (name : List ℕ) → Known kept texts → HasAll kept texts
      → is_read (kept_or_read of l kept texts) (all_kept of kept) name ≡ false
  none_read kept name known has = go (contains_key (kept_or_read of l kept texts) name) (contains-known kept known name)
    where
      go : (b : Bool) → b ≡ contains_key texts name → (b && not (contains_key (all_kept of kept) name)) ≡ false
      go true e = ap not (contains-all_kept of kept name ∙ has name (sym e))
      go false e = refl

  pub no_more : (kept : BTreeMap (String Global) (Result A Error)) (name : List ℕ) (n : ℕ) → Known kept texts → HasAll kept texts
      → n + once (is_read (kept_or_read of l kept texts) (all_kept of kept) name) ≡ n
  no_more kept name n known has = ap (λ b. n + once b) (none_read kept name known has) ∙ omega arith

  read_in : (kept : BTreeMap (String Global) (Result A Error)) (count : ℕ) (front rest : List (List ℕ)) (name : List ℕ) → Known kept texts
      → front ++ name ∷ rest ≡ keys texts → contains_key (kept_or_read of l kept texts) name ≡ true
  read_in kept count front rest name known whole =
      contains-known kept known name ∙ contains_key-keys texts name ∙ ap (list_any (names_eq name)) (sym whole)
      ∙ any_here (names_eq name) front name rest (ap is_eq (tied_itself nat_list_cmp_total name))

  pub read_more : (old new : BTreeMap (String Global) (Result A Error)) (n count : ℕ) (name : List ℕ) (rest : List (List ℕ))
      → Known old texts → ReadSoFar of texts old n (name ∷ rest)
      → all_kept of new ≡ kept_after true (kept_or_read of l old texts) name (all_kept of old)
      → count ≡ n + once (is_read (kept_or_read of l old texts) (all_kept of old) name) → ReadSoFar of texts new count rest
  read_more old new n count name rest known so_far keeps counts =
      let finds = kept_or_read of l old texts in
      let there = read_in old n so_far.front rest name known so_far.whole in
      let long = len-kept_after finds (all_kept of old) name in
      let here : contains_key (all_kept of new) name ≡ true =
      ap (λ m. contains_key m name) keeps ∙ now_kept finds (all_kept of old) name there in
      record {
        front = so_far.front ++ name ∷ [];
        whole = append_assoc so_far.front (name ∷ []) rest ∙ so_far.whole;
        has =
            λ q t. by_last (names_eq q name) (list_any (names_eq q) so_far.front) (contains_key (all_kept of new) q)
            (sym (any_last (names_eq q) so_far.front name) ∙ t)
            (λ u. ap (λ m. contains_key m q) keeps ∙ still_kept true finds (all_kept of old) name q (so_far.has q u))
            (λ u. ap is_some (same_name (all_kept of new) q name u) ∙ here);
        counted = counts ∙ ap (λ k. k + once (is_read finds (all_kept of old) name)) so_far.counted ∙ sym long ∙ sym (ap len keeps);
      }
