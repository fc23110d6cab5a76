-- The last place of a name, where one frame isn't listed.
use Rattle.std.proofs.Common.{◌≡◌, ℕ, ◌<◌, ◌≤◌, List, Option, None, Some, Bool, true, false, cond, refl, sym, ap, ◌∙◌, arith}
use Rattle.std.proofs.lemmas.Bool.Decides.{nat_tests}
use Rattle.std.proofs.lemmas.Option.{same_Some}
use Rattle.std.specs.Prelude.{is_some, nat_eq, nat_lt, ◌&&◌, ◌||◌, not}
use Rattle.liquid_value.specs.meaning.Tree.{Tree}
use Rattle.liquid_runtime.specs.meaning.View.{View}
use Rattle.liquid_runtime.specs.meaning.NamesSeen.{lookup}
use Rattle.liquid_scopes.specs.steps.Layers.{Layer, shown_over}
use Rattle.liquid_scopes.specs.steps.NamePlaces.{TopOf, is_at, is_under}
use Rattle.liquid_scopes.specs.steps.Standing.{two_looks, own_at, has_at, listed_at, seen_over, own_at_top, last_seal}
use Rattle.liquid_scopes.proofs.TwoLooks.{sought}
use Rattle.std.proofs.Math.Bool.{and-true, and-false}

later : (i j : ℕ) → i < j → nat_eq j i ≡ false
later i j h = grind (arith, nat_tests)

-- a place other than the unlisted one
other : (P : ℕ → Bool) (i j : ℕ) → i < j → (P j && not (nat_eq j i)) ≡ P j
other P i j h = ap (λ b. P j && not b) (later i j h) ∙ and-true (P j)

-- an unlisted place that doesn't pass
pub absent : (P : ℕ → Bool) (i j : ℕ) (b : Bool) → nat_eq j i ≡ b → P i ≡ false → (P j && not b) ≡ P j
absent P i j true e h = let k : j ≡ i = grind (arith, nat_tests) in and-false (P j) ∙ sym (ap P k ∙ h)
absent P i j false e h = and-true (P j)

pub top_same : (P Q : ℕ → Bool) (top : Option ℕ) → ((j : ℕ) → P j ≡ Q j) → TopOf P top → TopOf Q top
top_same P Q None e h = λ j. sym (e j) ∙ h j
top_same P Q (Some i) e h = (sym (e i) ∙ h.0, λ j lt. sym (e j) ∙ h.1 j lt)

pub top_over : (P : ℕ → Bool) (i k : ℕ) → i < k → TopOf (λ j. P j && not (is_at (Some i) j)) (Some k) → TopOf P (Some k)
top_over P i k lt h = (sym (other P i k lt) ∙ h.0, λ j l. sym (other P i j (omega arith)) ∙ h.1 j l)

pub top_here : (P : ℕ → Bool) (i : ℕ) (listed : Option ℕ) → is_under i listed ≡ false → P i ≡ true
    → TopOf (λ j. P j && not (is_at (Some i) j)) listed → TopOf P (Some i)
top_here P i None e has h = (has, λ j lt. sym (other P i j lt) ∙ h j)
top_here P i (Some k) e has h = let le : k ≤ i = grind (arith, nat_tests) in (has, λ j lt. sym (other P i j lt) ∙ h.1 j (omega arith))

value_here : (S : Option ℕ) (i : ℕ) (w o : Option Tree) → is_under i S ≡ false → two_looks (Some i) S w o ≡ w
value_here None i w o e = refl
value_here (Some s) i w o e = ap (λ b. cond b None w) e

hidden : (S : Option ℕ) (i : ℕ) (w o : Option Tree) → is_under i S ≡ true → two_looks (Some i) S w o ≡ None
hidden None i w o e = absurd (cc)
hidden (Some s) i w o e = ap (λ b. cond b None w) e

-- what is under a hidden place is hidden
hidden_too : (listed S : Option ℕ) (i : ℕ) (w o : Option Tree) → is_under i S ≡ true → is_under i listed ≡ false
    → two_looks listed S w o ≡ None
hidden_too listed None i w o e f = absurd (cc)
hidden_too None (Some s) i w o e f = refl
hidden_too (Some k) (Some s) i w o e f = let lt : nat_lt k s ≡ true = grind (arith, nat_tests) in ap (λ b. cond b None w) lt

module _ {V : Type 0} where
  pub absent_top : (ls : List (Layer V)) (q : List ℕ) (listed : Option ℕ) (u : ℕ) → has_at ls q u ≡ false
      → TopOf (listed_at ls (Some u) q) listed → TopOf (has_at ls q) listed
  absent_top ls q listed u none h =
      top_same (listed_at ls (Some u) q) (has_at ls q) listed (λ j. absent (has_at ls q) u j (nat_eq j u) refl none) h

module _ {V Reg : Type 0} where
  gives : (v : View Reg) (ls : List (Layer V)) (q : List ℕ) (listed S : Option ℕ) (u i : ℕ) (a b : Bool) (w : Option Tree)
      → is_under u S ≡ a → is_under u listed ≡ b → cond (a || b) None (Some u) ≡ Some i
      → TopOf (listed_at ls (Some u) q) listed → S ≡ last_seal ls → w ≡ own_at i ls q → is_some w ≡ true → w ≡ lookup (shown_over v ls) q
  gives v ls q listed S u i true b w ea eb e h s own some = absurd (cc)
  gives v ls q listed S u i false true w ea eb e h s own some = absurd (cc)
  gives v ls q listed S u i false false w ea eb e h s own some =
      let k : u ≡ i = same_Some u i e in
      let here : w ≡ own_at u ls q = own ∙ ap (λ j. own_at j ls q) (sym k) in
      here ∙ sym (value_here S u (own_at u ls q) (lookup v q) ea) ∙ sym
      (sought v ls q (Some u) S (top_here (has_at ls q) u listed eb (sym (ap is_some here) ∙ some) h) s)

  -- the unlisted frame is the last one of the name
  pub unlisted_gives : (v : View Reg) (ls : List (Layer V)) (q : List ℕ) (listed S U O : Option ℕ) (i : ℕ) (w : Option Tree)
      → O ≡ seen_over listed S U → O ≡ Some i
      → TopOf (listed_at ls U q) listed → S ≡ last_seal ls → w ≡ own_at i ls q → is_some w ≡ true → w ≡ lookup (shown_over v ls) q
  unlisted_gives v ls q listed S None O i w over is h s own some = absurd (cc)
  unlisted_gives v ls q listed S (Some u) O i w over is h s own some =
      gives v ls q listed S u i (is_under u S) (is_under u listed) w refl refl (sym over ∙ is) h s own some

  at_listed : (v : View Reg) (ls : List (Layer V)) (q : List ℕ) (listed S : Option ℕ) (w : Option Tree) → TopOf (has_at ls q) listed
      → S ≡ last_seal ls
      → w ≡ two_looks listed S (own_at_top listed ls q) (lookup v q) → w ≡ lookup (shown_over v ls) q
  at_listed v ls q listed S w h s e = e ∙ sym (sought v ls q listed S h s)

  passed : (v : View Reg) (ls : List (Layer V)) (q : List ℕ) (listed S : Option ℕ) (u i : ℕ) (c : Bool) (w : Option Tree)
      → cond c None (Some u) ≡ Some i
      → TopOf (listed_at ls (Some u) q) listed → S ≡ last_seal ls → None ≡ own_at i ls q
      → w ≡ two_looks listed S (own_at_top listed ls q) (lookup v q) → w ≡ lookup (shown_over v ls) q
  passed v ls q listed S u i true w e h s none is = absurd (cc)
  passed v ls q listed S u i false w e h s none is =
      let k : u ≡ i = same_Some u i e in
      at_listed v ls q listed S w (absent_top ls q listed u (ap (has_at ls q) k ∙ sym (ap is_some none)) h) s is

  -- the unlisted frame doesn't have the name
  pub passed_unlisted : (v : View Reg) (ls : List (Layer V)) (q : List ℕ) (listed S U O : Option ℕ) (i : ℕ) (w : Option Tree)
      → O ≡ seen_over listed S U → O ≡ Some i
      → TopOf (listed_at ls U q) listed → S ≡ last_seal ls → None ≡ own_at i ls q
      → w ≡ two_looks listed S (own_at_top listed ls q) (lookup v q) → w ≡ lookup (shown_over v ls) q
  passed_unlisted v ls q listed S None O i w over is h s none e = absurd (cc)
  passed_unlisted v ls q listed S (Some u) O i w over is h s none e =
      passed v ls q listed S u i (is_under u S || is_under u listed) w (sym over ∙ is) h s none e

  under_listed : (v : View Reg) (ls : List (Layer V)) (q : List ℕ) (listed S : Option ℕ) (u : ℕ) (w : Option Tree)
      → is_under u listed ≡ true
      → TopOf (listed_at ls (Some u) q) listed → S ≡ last_seal ls → w ≡ two_looks listed S (own_at_top listed ls q) (lookup v q)
      → w ≡ lookup (shown_over v ls) q
  under_listed v ls q None S u w e h s is = absurd (cc)
  under_listed v ls q (Some k) S u w e h s is =
      let lt : u < k = grind (arith, nat_tests) in at_listed v ls q (Some k) S w (top_over (has_at ls q) u k lt h) s is

  under_seal : (v : View Reg) (ls : List (Layer V)) (q : List ℕ) (listed S : Option ℕ) (u : ℕ) (has : Bool) (w : Option Tree)
      → has_at ls q u ≡ has → is_under u S ≡ true → is_under u listed ≡ false
      → TopOf (listed_at ls (Some u) q) listed → S ≡ last_seal ls → w ≡ two_looks listed S (own_at_top listed ls q) (lookup v q)
      → w ≡ lookup (shown_over v ls) q
  under_seal v ls q listed S u true w has e f h s is =
      is ∙ hidden_too listed S u (own_at_top listed ls q) (lookup v q) e f
      ∙ sym (sought v ls q (Some u) S (top_here (has_at ls q) u listed f has h) s ∙ hidden S u (own_at u ls q) (lookup v q) e)
  under_seal v ls q listed S u false w has e f h s is = at_listed v ls q listed S w (absent_top ls q listed u has h) s is

  unseen : (v : View Reg) (ls : List (Layer V)) (q : List ℕ) (listed S : Option ℕ) (u : ℕ) (a b : Bool) (w : Option Tree) → is_under u S ≡ a
      → is_under u listed ≡ b → cond (a || b) None (Some u) ≡ None
      → TopOf (listed_at ls (Some u) q) listed → S ≡ last_seal ls → w ≡ two_looks listed S (own_at_top listed ls q) (lookup v q)
      → w ≡ lookup (shown_over v ls) q
  unseen v ls q listed S u true true w ea eb e h s is = under_listed v ls q listed S u w eb h s is
  unseen v ls q listed S u true false w ea eb e h s is = under_seal v ls q listed S u (has_at ls q u) w refl ea eb h s is
  unseen v ls q listed S u false true w ea eb e h s is = under_listed v ls q listed S u w eb h s is
  unseen v ls q listed S u false false w ea eb e h s is = absurd (cc)

  -- no unlisted frame is over the last listed place and every sandboxed frame
  pub no_unlisted : (v : View Reg) (ls : List (Layer V)) (q : List ℕ) (listed S U O : Option ℕ) (w : Option Tree) → O ≡ seen_over listed S U
      → O ≡ None
      → TopOf (listed_at ls U q) listed → S ≡ last_seal ls → w ≡ two_looks listed S (own_at_top listed ls q) (lookup v q)
      → w ≡ lookup (shown_over v ls) q
  no_unlisted v ls q listed S None O w over is h s e =
      at_listed v ls q listed S w (top_same (listed_at ls None q) (has_at ls q) listed (λ j. and-true (has_at ls q j)) h) s e
  no_unlisted v ls q listed S (Some u) O w over is h s e =
      unseen v ls q listed S u (is_under u S) (is_under u listed) w refl refl (sym over ∙ is) h s e
