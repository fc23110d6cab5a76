-- The last place of a name, the last sandboxed frame and the base are enough.
use Rattle.std.proofs.Common.{
  ◌≡◌,
  ℕ,
  zero,
  suc,
  ◌<◌,
  ◌≤◌,
  List,
  [],
  ◌∷◌,
  ◌++◌,
  length,
  Option,
  None,
  Some,
  Bool,
  true,
  false,
  cond,
  refl,
  sym,
  ap,
  ◌∙◌,
  arith,
}
use Rattle.std.proofs.lemmas.Bool.Decides.{nat_tests}
use Rattle.std.specs.Prelude.{is_some, nat_lt, nat_eq, ◌&&◌, ◌||◌, option_map}
use Rattle.std.specs.Option.{option_or}
use Rattle.std.specs.FinMap.{get}
use Rattle.liquid_value.specs.meaning.Tree.{Tree}
use Rattle.liquid_runtime.specs.meaning.View.{View}
use Rattle.liquid_runtime.specs.meaning.NamesSeen.{lookup}
use Rattle.liquid_scopes.specs.steps.Layers.{
  Layer,
  none_layer,
  stack_layer,
  global_layer,
  sandboxed_layer,
  isolated_layer,
  layer_found,
  layer_view,
  shown_over,
}
use Rattle.liquid_scopes.specs.steps.Standing.{two_looks, own, own_at, has_at, own_at_top, is_sandboxed, last_seal, found_over}
use Rattle.liquid_scopes.specs.steps.NamePlaces.{TopOf}
use Rattle.liquid_scopes.proofs.LayerLaws.{lookup_link}
use Rattle.std.proofs.Math.Bool.{and-true, or-false, and-false}

not_there : (o : Option Tree) → is_some o ≡ false → o ≡ None
not_there None e = refl
not_there (Some t) e = absurd (cc)

or_of_own : (o below : Option Tree) → is_some o ≡ true → option_or o below ≡ o
or_of_own None below e = absurd (cc)
or_of_own (Some t) below e = refl

or_of_none : (o below : Option Tree) → is_some o ≡ false → option_or o below ≡ below
or_of_none None below e = refl
or_of_none (Some t) below e = absurd (cc)

pub suc_below : (i s : ℕ) → nat_lt (suc i) (suc s) ≡ nat_lt i s
suc_below i s = grind (arith, nat_tests)

pub zero_below : (s : ℕ) → nat_lt 0 (suc s) ≡ true
zero_below s = grind (arith, nat_tests)

pub none_below : (i : ℕ) → nat_lt i 0 ≡ false
none_below i = grind (arith, nat_tests)

first_none : (b : Bool) (S : Option ℕ) (value below : Option Tree)
    → two_looks None S value (cond b None below) ≡ two_looks None (option_or (option_map (λ i. suc i) S) (cond b (Some 0) None)) value below
first_none true None value below = refl
first_none false None value below = refl
first_none b (Some s) value below = refl

first_own : (b : Bool) (S : Option ℕ) (value own_value below : Option Tree)
    → two_looks None S value own_value ≡ two_looks (Some 0) (option_or (option_map (λ i. suc i) S) (cond b (Some 0) None)) own_value below
first_own true None value own_value below = ap (λ c. cond c None own_value) (sym (none_below 0))
first_own false None value own_value below = refl
first_own b (Some s) value own_value below = ap (λ c. cond c None own_value) (sym (zero_below s))

later_own : (b : Bool) (S : Option ℕ) (i : ℕ) (value below low : Option Tree)
    → two_looks (Some i) S value low ≡ two_looks (Some (suc i)) (option_or (option_map (λ i. suc i) S) (cond b (Some 0) None)) value below
later_own true None i value below low = ap (λ c. cond c None value) (sym (none_below (suc i)))
later_own false None i value below low = refl
later_own b (Some s) i value below low = ap (λ c. cond c None value) (sym (suc_below i s))

pub suc_not_zero : (j : ℕ) → nat_eq (suc j) 0 ≡ false
suc_not_zero j = grind (arith, nat_tests)

pub zero_not_suc : (n : ℕ) → nat_eq 0 (suc n) ≡ false
zero_not_suc n = grind (arith, nat_tests)

pub suc_eq : (i s : ℕ) → nat_eq (suc i) (suc s) ≡ nat_eq i s
suc_eq i s = grind (arith, nat_tests)

is_below : (p s : ℕ) → p < s → nat_lt p s ≡ true
is_below p s h = grind (arith, nat_tests)

not_below : (p s : ℕ) → s ≤ p → nat_lt p s ≡ false
not_below p s h = grind (arith, nat_tests)

pub sealed_away : (top S : Option ℕ) (p s : ℕ) (w o : Option Tree) → top ≡ Some p → S ≡ Some s → p < s → None ≡ two_looks top S w o
sealed_away top S p s w o t e h =
    sym (ap (λ k. two_looks k S w o) t ∙ ap (λ k. two_looks (Some p) k w o) e ∙ ap (λ b. cond b None w) (is_below p s h))

pub above_seal : (top S : Option ℕ) (p s : ℕ) (w o : Option Tree) → top ≡ Some p → S ≡ Some s → s ≤ p → w ≡ two_looks top S w o
above_seal top S p s w o t e h =
    sym (ap (λ k. two_looks k S w o) t ∙ ap (λ k. two_looks (Some p) k w o) e ∙ ap (λ b. cond b None w) (not_below p s h))

pub no_seal : (top S : Option ℕ) (p : ℕ) (w o : Option Tree) → top ≡ Some p → S ≡ None → w ≡ two_looks top S w o
no_seal top S p w o t e = sym (ap (λ k. two_looks k S w o) t ∙ ap (λ k. two_looks (Some p) k w o) e)

pub base_sealed : (top S : Option ℕ) (s : ℕ) (w o : Option Tree) → top ≡ None → S ≡ Some s → None ≡ two_looks top S w o
base_sealed top S s w o t e = sym (ap (λ k. two_looks k S w o) t ∙ ap (λ k. two_looks None k w o) e)

pub base_seen : (top S : Option ℕ) (w o : Option Tree) → top ≡ None → S ≡ None → o ≡ two_looks top S w o
base_seen top S w o t e = sym (ap (λ k. two_looks k S w o) t ∙ ap (λ k. two_looks None k w o) e)

module _ {V : Type 0} where
  -- a layer that has the name gives its own value
  own_found : (l : Layer V) (q : List ℕ) (below : Option Tree) → is_some (own l q) ≡ true → layer_found l q below ≡ own l q
  own_found none_layer q below e = absurd (cc)
  own_found (stack_layer d n) q below e = or_of_own (get d q) below e
  own_found (global_layer g) q below e = or_of_own (get g q) below e
  own_found (sandboxed_layer d n s) q below e = refl
  own_found (isolated_layer d g n s) q below e = refl

  -- a layer that doesn't have it passes what is below, unless it is sandboxed
  passes : (l : Layer V) (q : List ℕ) (below : Option Tree) → is_some (own l q) ≡ false
      → layer_found l q below ≡ cond (is_sandboxed l) None below
  passes none_layer q below e = refl
  passes (stack_layer d n) q below e = or_of_none (get d q) below e
  passes (global_layer g) q below e = or_of_none (get g q) below e
  passes (sandboxed_layer d n s) q below e = not_there (get d q) e
  passes (isolated_layer d g n s) q below e = not_there (option_or (get g q) (get d q)) e

  pub tail_top : (l : Layer V) (ls : List (Layer V)) (q : List ℕ) (i : ℕ) → TopOf (has_at (l ∷ ls) q) (Some (suc i))
      → TopOf (has_at ls q) (Some i)
  tail_top l ls q i h = (h.0, λ j lt. h.1 (suc j) (omega arith))

  pub none_after : (l : Layer V) (ls : List (Layer V)) (q : List ℕ) → TopOf (has_at (l ∷ ls) q) (Some 0) → TopOf (has_at ls q) None
  none_after l ls q h = λ j. h.1 (suc j) (omega arith)

  pub looks_are_enough : (ls : List (Layer V)) (q : List ℕ) (top : Option ℕ) (below : Option Tree) → TopOf (has_at ls q) top
      → found_over ls q below ≡ two_looks top (last_seal ls) (own_at_top top ls q) below
  looks_are_enough [] q None below h = refl
  looks_are_enough [] q (Some i) below h = absurd (cc)
  looks_are_enough (l ∷ ls) q None below h =
      looks_are_enough ls q None (layer_found l q below) (λ j. h (suc j))
      ∙ ap (two_looks None (last_seal ls) None) (passes l q below (h 0))
      ∙ first_none (is_sandboxed l) (last_seal ls) None below
  looks_are_enough (l ∷ ls) q (Some zero) below h =
      looks_are_enough ls q None (layer_found l q below) (none_after l ls q h)
      ∙ ap (two_looks None (last_seal ls) None) (own_found l q below h.0)
      ∙ first_own (is_sandboxed l) (last_seal ls) None (own l q) below
  looks_are_enough (l ∷ ls) q (Some (suc i)) below h =
      looks_are_enough ls q (Some i) (layer_found l q below) (tail_top l ls q i h)
      ∙ later_own (is_sandboxed l) (last_seal ls) i (own_at i ls q) below (layer_found l q below)

  -- the names of the list with one more layer
  pub has_at-push : (ls : List (Layer V)) (l : Layer V) (q : List ℕ) (j : ℕ)
      → has_at (ls ++ l ∷ []) q j ≡ (has_at ls q j || (is_some (own l q) && nat_eq j (length ls)))
  has_at-push [] l q zero = sym (and-true (is_some (own l q)))
  has_at-push [] l q (suc j) = sym (ap (λ b. is_some (own l q) && b) (suc_not_zero j) ∙ and-false (is_some (own l q)))
  has_at-push (m ∷ ls) l q zero =
      sym (ap (λ b. is_some (own m q) || (is_some (own l q) && b)) (zero_not_suc (length ls))
      ∙ ap (λ b. is_some (own m q) || b) (and-false (is_some (own l q))) ∙ or-false (is_some (own m q)))
  has_at-push (m ∷ ls) l q (suc j) = has_at-push ls l q j ∙ ap (λ b. has_at ls q j || (is_some (own l q) && b)) (sym (suc_eq j (length ls)))

  pub nothing_after : (ls : List (Layer V)) (q : List ℕ) → has_at ls q (length ls) ≡ false
  nothing_after [] q = refl
  nothing_after (l ∷ ls) q = nothing_after ls q

module _ {V Reg : Type 0} where
  -- what the layers show is what they find
  pub lookup_over : (v : View Reg) (ls : List (Layer V)) (q : List ℕ) → lookup (shown_over v ls) q ≡ found_over ls q (lookup v q)
  lookup_over v [] q = refl
  lookup_over v (l ∷ ls) q = lookup_over (layer_view l v) ls q ∙ ap (found_over ls q) (lookup_link l v q)

  -- what a lookup finds, by the last place and the seal
  pub sought : (v : View Reg) (ls : List (Layer V)) (q : List ℕ) (top S : Option ℕ) → TopOf (has_at ls q) top → S ≡ last_seal ls
      → lookup (shown_over v ls) q ≡ two_looks top S (own_at_top top ls q) (lookup v q)
  sought v ls q top S h e =
      lookup_over v ls q ∙ looks_are_enough ls q top (lookup v q) h ∙ ap (λ s. two_looks top s (own_at_top top ls q) (lookup v q)) (sym e)
