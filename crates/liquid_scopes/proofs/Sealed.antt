-- Whether a name is the own name of a sandboxed frame: its last place, the last sandboxed frame and the base are
-- enough.
use Rattle.std.proofs.Common.{
  ◌≡◌,
  ℕ,
  zero,
  suc,
  ◌<◌,
  ◌≤◌,
  List,
  [],
  ◌∷◌,
  length,
  map,
  get_or,
  Option,
  None,
  Some,
  Bool,
  true,
  false,
  cond,
  refl,
  sym,
  ap,
  ◌∙◌,
  arith,
  subst,
}
use Rattle.std.proofs.lemmas.Bool.Decides.{nat_tests}
use Rattle.std.proofs.lemmas.Option.{same_Some}
use Rattle.std.specs.Prelude.{is_some, is_none, nat_lt, ◌&&◌, ◌||◌, not, option_map}
use Rattle.std.specs.Option.{option_or}
use Rattle.std.specs.FinMap.{get}
use Rattle.liquid_value.specs.meaning.Tree.{Tree}
use Rattle.liquid_runtime.specs.meaning.View.{View}
use Rattle.liquid_runtime.specs.meaning.NamesSeen.{comes_from_seal}
use Rattle.liquid_scopes.specs.steps.Layers.{
  Layer,
  none_layer,
  stack_layer,
  global_layer,
  sandboxed_layer,
  isolated_layer,
  layer_seals,
  layer_view,
  shown_over,
}
use Rattle.liquid_scopes.specs.steps.NamePlaces.{TopOf, is_under}
use Rattle.liquid_scopes.specs.steps.Standing.{own, has_at, listed_at, seen_over, sealed_by, seals_own, seals_at, is_sandboxed, last_seal}
use Rattle.liquid_scopes.proofs.LayerLaws.{seal_layer}
use Rattle.liquid_scopes.proofs.TwoLooks.{none_below, zero_below, suc_below, tail_top, none_after}
use Rattle.liquid_scopes.proofs.Unlisted.{top_same, top_over, top_here, absent_top}
use Rattle.std.proofs.Math.Bool.{and-true}

hidden_by : (o : Option Tree) (b : Bool) → is_some o ≡ true → (is_none o && b) ≡ false
hidden_by None b e = absurd (cc)
hidden_by (Some t) b e = refl

passed_by : (o : Option Tree) (b : Bool) → is_some o ≡ false → (is_none o && b) ≡ b
passed_by None b e = refl
passed_by (Some t) b e = absurd (cc)

not_later : (i j : ℕ) → nat_lt i j ≡ true → nat_lt j i ≡ false
not_later i j h = grind (arith, nat_tests)

earlier_yet : (k u s : ℕ) → nat_lt u s ≡ true → nat_lt u k ≡ false → nat_lt s k ≡ false
earlier_yet k u s h e = grind (arith, nat_tests)

first_none : (b : Bool) (S : Option ℕ) (seals : ℕ → Bool) (below : Bool) → seals 0 ≡ true
    → sealed_by None S (λ i. seals (suc i)) (b || below) ≡ sealed_by None
    (option_or (option_map (λ i. suc i) S) (cond b (Some 0) None)) seals below
first_none true None seals below e = sym e
first_none false None seals below e = refl
first_none b (Some s) seals below e = refl

first_own : (b : Bool) (S : Option ℕ) (seals : ℕ → Bool) (below : Bool)
    → sealed_by None S (λ i. seals (suc i)) (b && seals 0) ≡ sealed_by (Some 0)
    (option_or (option_map (λ i. suc i) S) (cond b (Some 0) None)) seals below
first_own true None seals below = ap (λ c. not c && seals 0) (sym (none_below 0))
first_own false None seals below = refl
first_own b (Some s) seals below = ap (λ c. not c && seals (suc s)) (sym (none_below (suc s)))

later_own : (b : Bool) (S : Option ℕ) (i : ℕ) (seals : ℕ → Bool) (low below : Bool)
    → sealed_by (Some i) S (λ j. seals (suc j)) low ≡ sealed_by (Some (suc i))
    (option_or (option_map (λ i. suc i) S) (cond b (Some 0) None)) seals below
later_own true None i seals low below = ap (λ c. not c && seals 0) (sym (zero_below i))
later_own false None i seals low below = refl
later_own b (Some s) i seals low below = ap (λ c. not c && seals (suc s)) (sym (suc_below s i))

-- what is under a hidden place is hidden too
hidden_alike : (listed S : Option ℕ) (u : ℕ) (seals : ℕ → Bool) (b : Bool) → is_under u S ≡ true → is_under u listed ≡ false
    → sealed_by (Some u) S seals b ≡ sealed_by listed S seals b
hidden_alike listed None u seals b e f = absurd (cc)
hidden_alike None (Some s) u seals b e f = ap (λ c. not c && seals s) (not_later u s e)
hidden_alike (Some k) (Some s) u seals b e f = ap (λ c. not c && seals s) (not_later u s e ∙ sym (earlier_yet k u s e f))

first_missing : (a b : Option Tree) → is_some (option_or a b) ≡ false → is_none a ≡ true
first_missing None b e = refl
first_missing (Some t) b e = absurd (cc)

module _ {V : Type 0} where
  owner : (l : Layer V) (q : List ℕ) (b : Bool) → is_some (own l q) ≡ true → layer_seals l q b ≡ (is_sandboxed l && seals_own l q)
  owner none_layer q b e = absurd (cc)
  owner (stack_layer d n) q b e = hidden_by (get d q) b e
  owner (global_layer g) q b e = hidden_by (get g q) b e
  owner (sandboxed_layer d n s) q b e = refl
  owner (isolated_layer d g n s) q b e = refl

  other : (l : Layer V) (q : List ℕ) (b : Bool) → is_some (own l q) ≡ false → layer_seals l q b ≡ (is_sandboxed l || b)
  other none_layer q b e = refl
  other (stack_layer d n) q b e = passed_by (get d q) b e
  other (global_layer g) q b e = passed_by (get g q) b e
  other (sandboxed_layer d n s) q b e = refl
  other (isolated_layer d g n s) q b e = first_missing (get g q) (get d q) e

  seals_missing : (l : Layer V) (q : List ℕ) → is_some (own l q) ≡ false → seals_own l q ≡ true
  seals_missing none_layer q e = refl
  seals_missing (stack_layer d n) q e = refl
  seals_missing (global_layer g) q e = refl
  seals_missing (sandboxed_layer d n s) q e = refl
  seals_missing (isolated_layer d g n s) q e = first_missing (get g q) (get d q) e

  -- an unlisted frame that may be asked, and has the name, is the name's last one
  asked : (ls : List (Layer V)) (q : List ℕ) (listed : Option ℕ) (u i : ℕ) (a b : Bool) → is_under u listed ≡ b
      → cond (a || b) None (Some u) ≡ Some i
      → TopOf (listed_at ls (Some u) q) listed → has_at ls q i ≡ true → TopOf (has_at ls q) (Some i)
  asked ls q listed u i true b eb e h has = absurd (cc)
  asked ls q listed u i false true eb e h has = absurd (cc)
  asked ls q listed u i false false eb e h has =
      let k : u ≡ i = same_Some u i e in
      subst (λ j. TopOf (has_at ls q) (Some j)) k (top_here (has_at ls q) u listed eb (ap (has_at ls q) k ∙ has) h)

  module _ {X : Type 0} (f : X → Layer V) where
    -- what the layer at a place seals
    pub seals_within : (xs : List X) (i : ℕ) (x : X) (q : List ℕ) → i < length xs → x ≡ get_or xs i x
        → seals_own (f x) q ≡ seals_at (map f xs) q i
    seals_within [] i x q h e = absurd (omega arith)
    seals_within (y ∷ xs) zero x q h e = ap (λ z. seals_own (f z) q) e
    seals_within (y ∷ xs) (suc i) x q h e = seals_within xs i x q (omega arith) e

    pub seals_past : (xs : List X) (i : ℕ) (q : List ℕ) → length xs ≤ i → true ≡ seals_at (map f xs) q i
    seals_past [] i q h = refl
    seals_past (y ∷ xs) zero q h = absurd (omega arith)
    seals_past (y ∷ xs) (suc i) q h = seals_past xs i q (omega arith)

module _ {V Reg : Type 0} where
  by_top : (v : View Reg) (ls : List (Layer V)) (q : List ℕ) (top : Option ℕ) → TopOf (has_at ls q) top
      → comes_from_seal (shown_over v ls) q ≡ sealed_by top (last_seal ls) (seals_at ls q) (comes_from_seal v q)
  by_top v [] q None h = refl
  by_top v [] q (Some i) h = absurd (cc)
  by_top v (l ∷ ls) q None h =
      by_top (layer_view l v) ls q None (λ j. h (suc j))
      ∙ ap (sealed_by None (last_seal ls) (seals_at ls q)) (seal_layer l v q ∙ other l q (comes_from_seal v q) (h 0))
      ∙ first_none (is_sandboxed l) (last_seal ls) (seals_at (l ∷ ls) q) (comes_from_seal v q) (seals_missing l q (h 0))
  by_top v (l ∷ ls) q (Some zero) h =
      by_top (layer_view l v) ls q None (none_after l ls q h)
      ∙ ap (sealed_by None (last_seal ls) (seals_at ls q)) (seal_layer l v q ∙ owner l q (comes_from_seal v q) h.0)
      ∙ first_own (is_sandboxed l) (last_seal ls) (seals_at (l ∷ ls) q) (comes_from_seal v q)
  by_top v (l ∷ ls) q (Some (suc i)) h =
      by_top (layer_view l v) ls q (Some i) (tail_top l ls q i h)
      ∙ later_own (is_sandboxed l) (last_seal ls) i (seals_at (l ∷ ls) q) (comes_from_seal (layer_view l v) q) (comes_from_seal v q)

  -- the unlisted frame has the name
  pub sealed_here : (v : View Reg) (ls : List (Layer V)) (q : List ℕ) (listed U O : Option ℕ) (i : ℕ)
      → O ≡ seen_over listed (last_seal ls) U → O ≡ Some i
      → TopOf (listed_at ls U q) listed → has_at ls q i ≡ true → comes_from_seal (shown_over v ls) q ≡ sealed_by (Some i) (last_seal ls)
      (seals_at ls q) (comes_from_seal v q)
  sealed_here v ls q listed None O i over is h has = absurd (cc)
  sealed_here v ls q listed (Some u) O i over is h has =
      by_top v ls q (Some i) (asked ls q listed u i (is_under u (last_seal ls)) (is_under u listed) refl (sym over ∙ is) h has)

  missed : (v : View Reg) (ls : List (Layer V)) (q : List ℕ) (listed : Option ℕ) (u i : ℕ) (c : Bool) → cond c None (Some u) ≡ Some i
      → TopOf (listed_at ls (Some u) q) listed → has_at ls q i ≡ false
      → comes_from_seal (shown_over v ls) q ≡ sealed_by listed (last_seal ls) (seals_at ls q) (comes_from_seal v q)
  missed v ls q listed u i true e h none = absurd (cc)
  missed v ls q listed u i false e h none = by_top v ls q listed (absent_top ls q listed u (ap (has_at ls q) (same_Some u i e) ∙ none) h)

  -- the unlisted frame doesn't have the name
  pub sealed_past : (v : View Reg) (ls : List (Layer V)) (q : List ℕ) (listed U O : Option ℕ) (i : ℕ)
      → O ≡ seen_over listed (last_seal ls) U → O ≡ Some i
      → TopOf (listed_at ls U q) listed → has_at ls q i ≡ false → comes_from_seal (shown_over v ls) q ≡ sealed_by listed (last_seal ls)
      (seals_at ls q) (comes_from_seal v q)
  sealed_past v ls q listed None O i over is h none = absurd (cc)
  sealed_past v ls q listed (Some u) O i over is h none =
      missed v ls q listed u i (is_under u (last_seal ls) || is_under u listed) (sym over ∙ is) h none

  under_listed : (v : View Reg) (ls : List (Layer V)) (q : List ℕ) (listed : Option ℕ) (u : ℕ) → is_under u listed ≡ true
      → TopOf (listed_at ls (Some u) q) listed → comes_from_seal (shown_over v ls) q ≡ sealed_by listed (last_seal ls) (seals_at ls q)
      (comes_from_seal v q)
  under_listed v ls q None u e h = absurd (cc)
  under_listed v ls q (Some k) u e h = let lt : u < k = grind (arith, nat_tests) in by_top v ls q (Some k) (top_over (has_at ls q) u k lt h)

  under_seal : (v : View Reg) (ls : List (Layer V)) (q : List ℕ) (listed : Option ℕ) (u : ℕ) (has : Bool) → has_at ls q u ≡ has
      → is_under u (last_seal ls) ≡ true → is_under u listed ≡ false
      → TopOf (listed_at ls (Some u) q) listed → comes_from_seal (shown_over v ls) q ≡ sealed_by listed (last_seal ls) (seals_at ls q)
      (comes_from_seal v q)
  under_seal v ls q listed u true has e f h =
      by_top v ls q (Some u) (top_here (has_at ls q) u listed f has h)
      ∙ hidden_alike listed (last_seal ls) u (seals_at ls q) (comes_from_seal v q) e f
  under_seal v ls q listed u false has e f h = by_top v ls q listed (absent_top ls q listed u has h)

  unasked : (v : View Reg) (ls : List (Layer V)) (q : List ℕ) (listed : Option ℕ) (u : ℕ) (a b : Bool) → is_under u (last_seal ls) ≡ a
      → is_under u listed ≡ b → cond (a || b) None (Some u) ≡ None
      → TopOf (listed_at ls (Some u) q) listed → comes_from_seal (shown_over v ls) q ≡ sealed_by listed (last_seal ls) (seals_at ls q)
      (comes_from_seal v q)
  unasked v ls q listed u a true ea eb e h = under_listed v ls q listed u eb h
  unasked v ls q listed u true false ea eb e h = under_seal v ls q listed u (has_at ls q u) refl ea eb h
  unasked v ls q listed u false false ea eb e h = absurd (cc)

  -- no unlisted frame is over the last listed place and every sandboxed frame
  pub sealed_unasked : (v : View Reg) (ls : List (Layer V)) (q : List ℕ) (listed U O : Option ℕ) → O ≡ seen_over listed (last_seal ls) U
      → O ≡ None
      → TopOf (listed_at ls U q) listed → comes_from_seal (shown_over v ls) q ≡ sealed_by listed (last_seal ls) (seals_at ls q)
      (comes_from_seal v q)
  sealed_unasked v ls q listed None O over is h =
      by_top v ls q listed (top_same (listed_at ls None q) (has_at ls q) listed (λ j. and-true (has_at ls q j)) h)
  sealed_unasked v ls q listed (Some u) O over is h =
      unasked v ls q listed u (is_under u (last_seal ls)) (is_under u listed) refl refl (sym over ∙ is) h
