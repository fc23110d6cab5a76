-- The farthest stop of a relation is found from those of its pieces.
use Rattle.std.proofs.Common.{
  ◌≡◌,
  ℕ,
  ◌<◌,
  ◌≤◌,
  Bool,
  true,
  false,
  cond,
  nat_lt,
  ◌||◌,
  List,
  length,
  Option,
  MatchOption,
  Some,
  None,
  refl,
  sym,
  ap,
  ◌∙◌,
  subst,
  arith,
}
use Rattle.std.proofs.lemmas.Bool.{ltb-true, ltb-false}
use Rattle.liquid_grammar.specs.meaning.Rules.{Rule, Begins}
use Rattle.liquid_grammar.specs.steps.Steps.{Reader}
use Rattle.liquid_grammar.proofs.Exact.{Exact, same_match}
use Rattle.liquid_explain.specs.declared.part.Part.{Part}
use Rattle.liquid_explain.specs.declared.stop.Stop.{Stop}
use Rattle.liquid_explain.specs.meaning.Parts.{has, only, same, union}
use Rattle.liquid_explain.specs.meaning.Misses.{Misses, Wants, After, Either, this, that}
use Rattle.liquid_explain.specs.meaning.Farthest.{MissesAt, IsFarthestStop, IsFarthest}
use Rattle.liquid_explain.specs.steps.Farther.{stop_at, farther_of, farther}
use Rattle.liquid_explain.proofs.PartLemmas.{has_set_of, same_as_itself, same_are_equal}

moved_at : {M N : Misses} {s t : List ℕ} {left : ℕ} {part : Part} → ((place : List ℕ) → M s place part → N t place part)
    → MissesAt M s left part → MissesAt N t left part
moved_at f m = record { place = m.place; is_left = m.is_left; misses = f m.place m.misses }

abbrev Found : Misses → List ℕ → Option Stop → Type 0
Found M s stop = MatchOption stop ((place : List ℕ) (part : Part) → ¬ (M s place part)) (IsFarthestStop M s)

found_same : (M N : Misses) (s t : List ℕ) (stop : Option Stop) → ((place : List ℕ) (part : Part) → M s place part → N t place part)
    → ((place : List ℕ) (part : Part) → N t place part → M s place part) → Found M s stop → Found N t stop
found_same M N s t None to from none = λ place part m. none place part (from place part m)
found_same M N s t (Some stop) to from far = record {
  farthest = λ place part m. far.farthest place part (from place part m);
  all = λ part m. far.all part (moved_at {M = N} {N = M} (λ place. from place part) m);
  only = λ part h. moved_at {M = M} {N = N} (λ place. to place part) (far.only part h);
  some = far.some;
}

-- two relations with the same misses have the same farthest stop
pub far_same : {M N : Misses} (s t : List ℕ) (stop : Option Stop) → ((place : List ℕ) (part : Part) → M s place part → N t place part)
    → ((place : List ℕ) (part : Part) → N t place part → M s place part) → IsFarthest M s stop → IsFarthest N t stop
far_same {M} {N} s t stop to from far = record { found = found_same M N s t stop to from far.found }

at_this : {M N : Misses} {s : List ℕ} {left : ℕ} {part : Part} → MissesAt M s left part → MissesAt (Either M N) s left part
at_this m = record { place = m.place; is_left = m.is_left; misses = this m.misses }

at_that : {M N : Misses} {s : List ℕ} {left : ℕ} {part : Part} → MissesAt N s left part → MissesAt (Either M N) s left part
at_that m = record { place = m.place; is_left = m.is_left; misses = that m.misses }

moved_left : {M : Misses} {s : List ℕ} {a b : ℕ} {part : Part} → a ≡ b → MissesAt M s a part → MissesAt M s b part
moved_left e m = record { place = m.place; is_left = m.is_left ∙ e; misses = m.misses }

or_true : {P : Type 0} (a b : Bool) → (a || b) ≡ true → (a ≡ true → P) → (b ≡ true → P) → P
or_true true b e f g = f refl
or_true false b e f g = g e

or_first : (a b : Bool) → a ≡ true → (a || b) ≡ true
or_first true b e = refl
or_first false b e = cc

or_second : (a b : Bool) → b ≡ true → (a || b) ≡ true
or_second true b e = refl
or_second false b e = e

same_place : {M N : Misses} (s : List ℕ) (a b : Stop) → a.left ≡ b.left → IsFarthestStop M s a → IsFarthestStop N s b
    → IsFarthestStop (Either M N) s (stop_at a.left (union a.expected b.expected))
same_place {M} {N} s a b e f g = record { farthest = farthest; all = all; only = only_these; some = some }
  where
    farthest : (place : List ℕ) (part : Part) → Either M N s place part → a.left ≤ length place
    farthest place part (this x) = f.farthest place part x
    farthest place part (that y) = omega (arith, g.farthest place part y, e)

    all_at : (place : List ℕ) (part : Part) → length place ≡ a.left → Either M N s place part
        → (has a.expected part || has b.expected part) ≡ true
    all_at place part l (this x) = or_first _ _ (f.all part (record { place = place; is_left = l; misses = x }))
    all_at place part l (that y) =
        or_second (has a.expected part) _ (g.all part (record { place = place; is_left = l ∙ e; misses = y }))

    all : (part : Part) → MissesAt (Either M N) s a.left part → has (union a.expected b.expected) part ≡ true
    all part m = has_set_of (λ q. has a.expected q || has b.expected q) part ∙ all_at m.place part m.is_left m.misses

    only_these : (part : Part) → has (union a.expected b.expected) part ≡ true → MissesAt (Either M N) s a.left part
    only_these part h =
        or_true (has a.expected part) (has b.expected part) (sym (has_set_of (λ q. has a.expected q || has b.expected q) part) ∙ h)
        (λ (x : has a.expected part ≡ true). at_this (f.only part x))
        (λ (y : has b.expected part ≡ true). at_that (moved_left (sym e) (g.only part y)))

    some : (part : Part) × (has (union a.expected b.expected) part ≡ true)
    some = (
      f.some.0,
      has_set_of (λ q. has a.expected q || has b.expected q) f.some.0 ∙ or_first _ _ f.some.1,
    )

first_farther : {M N : Misses} (s : List ℕ) (a b : Stop) → a.left < b.left → IsFarthestStop M s a → IsFarthestStop N s b
    → IsFarthestStop (Either M N) s a
first_farther {M} {N} s a b less f g = record { farthest = farthest; all = all; only = λ part h. at_this (f.only part h); some = f.some }
  where
    farthest : (place : List ℕ) (part : Part) → Either M N s place part → a.left ≤ length place
    farthest place part (this x) = f.farthest place part x
    farthest place part (that y) = omega (arith, g.farthest place part y, less)

    all_at : (place : List ℕ) (part : Part) → length place ≡ a.left → Either M N s place part → has a.expected part ≡ true
    all_at place part l (this x) = f.all part (record { place = place; is_left = l; misses = x })
    all_at place part l (that y) = absurd (omega (arith, g.farthest place part y, l, less))

    all : (part : Part) → MissesAt (Either M N) s a.left part → has a.expected part ≡ true
    all part m = all_at m.place part m.is_left m.misses

second_farther : {M N : Misses} (s : List ℕ) (a b : Stop) → b.left < a.left → IsFarthestStop M s a → IsFarthestStop N s b
    → IsFarthestStop (Either M N) s b
second_farther {M} {N} s a b less f g = record { farthest = farthest; all = all; only = λ part h. at_that (g.only part h); some = g.some }
  where
    farthest : (place : List ℕ) (part : Part) → Either M N s place part → b.left ≤ length place
    farthest place part (this x) = omega (arith, f.farthest place part x, less)
    farthest place part (that y) = g.farthest place part y

    all_at : (place : List ℕ) (part : Part) → length place ≡ b.left → Either M N s place part → has b.expected part ≡ true
    all_at place part l (this x) = absurd (omega (arith, f.farthest place part x, l, less))
    all_at place part l (that y) = g.all part (record { place = place; is_left = l; misses = y })

    all : (part : Part) → MissesAt (Either M N) s b.left part → has b.expected part ≡ true
    all part m = all_at m.place part m.is_left m.misses

both_far : {M N : Misses} (s : List ℕ) (a b : Stop) → IsFarthestStop M s a → IsFarthestStop N s b
    → IsFarthestStop (Either M N) s (farther_of a b)
both_far {M} {N} s a b f g = go (nat_lt a.left b.left) (nat_lt b.left a.left) refl refl
  where
    go : (t u : Bool) → nat_lt a.left b.left ≡ t → nat_lt b.left a.left ≡ u
        → IsFarthestStop (Either M N) s (cond t a (cond u b (stop_at a.left (union a.expected b.expected))))
    go true u p q = first_farther s a b (ltb-true _ _ p) f g
    go false true p q = second_farther s a b (ltb-true _ _ q) f g
    go false false p q = same_place s a b (omega (arith, ltb-false _ _ p, ltb-false _ _ q)) f g

found_either : (M N : Misses) (s : List ℕ) (a b : Option Stop) → Found M s a → Found N s b → Found (Either M N) s (farther a b)
found_either M N s None None f g = none
  where
    none : (place : List ℕ) (part : Part) → ¬ (Either M N s place part)
    none place part (this x) = f place part x
    none place part (that y) = g place part y
found_either M N s None (Some b) f g =
    found_same N (Either M N) s s (Some b) (λ place part y. that y) back g
  where
    back : (place : List ℕ) (part : Part) → Either M N s place part → N s place part
    back place part (this x) = absurd (f place part x)
    back place part (that y) = y
found_either M N s (Some a) None f g =
    found_same M (Either M N) s s (Some a) (λ place part x. this x) back f
  where
    back : (place : List ℕ) (part : Part) → Either M N s place part → M s place part
    back place part (this x) = x
    back place part (that y) = absurd (g place part y)
found_either M N s (Some a) (Some b) f g = both_far s a b f g

-- the farthest stop of two relations is the farther one of their farthest stops
pub either_far : {M N : Misses} (s : List ℕ) (a b r : Option Stop) → r ≡ farther a b → IsFarthest M s a → IsFarthest N s b
    → IsFarthest (Either M N) s r
either_far {M} {N} s a b r e f g =
    record { found = subst (λ (o : Option Stop). Found (Either M N) s o) (sym e) (found_either M N s a b f.found g.found) }

farther_none : (a : Option Stop) → a ≡ farther a None
farther_none None = refl
farther_none (Some a) = refl

-- if nothing is missing in one of two relations, the farthest stop is that of the other
pub first_far : {M N : Misses} (s : List ℕ) (a : Option Stop) → IsFarthest M s a → IsFarthest N s None → IsFarthest (Either M N) s a
first_far s a f g = either_far s a None a (farther_none a) f g

pub second_far : {M N : Misses} (s : List ℕ) (b : Option Stop) → IsFarthest M s None → IsFarthest N s b → IsFarthest (Either M N) s b
second_far s b f g = either_far s None b b refl f g

pub nothing_far : {M : Misses} (s : List ℕ) → ((place : List ℕ) (part : Part) → ¬ (M s place part)) → IsFarthest M s None
nothing_far s none = record { found = none }

-- what is wanted at s, if only one part can be missing there
pub wanted_far : {M : Misses} (s : List ℕ) (wanted : Part) (r : Option Stop) → r ≡ Some (stop_at (length s) (only wanted))
    → M s s wanted → ((place : List ℕ) (part : Part) → M s place part → (place ≡ s) × (part ≡ wanted)) → IsFarthest M s r
wanted_far {M} s wanted r e misses here = record { found = subst (λ (o : Option Stop). Found M s o) (sym e) stop }
  where
    stop : IsFarthestStop M s (stop_at (length s) (only wanted))
    stop = record {
      farthest = λ place part m. omega (arith, ap length (here place part m).0);
      all = λ part m. ap (λ (q : Part). has (only wanted) q) (here m.place part m.misses).1
          ∙ has_set_of (same wanted) wanted ∙ same_as_itself wanted;
      only = λ part h. record {
        place = s;
        is_left = refl;
        misses = subst (λ (q : Part). M s s q) (sym (same_are_equal wanted part (sym (has_set_of (same wanted) part) ∙ h))) misses;
      };
      some = (wanted, has_set_of (same wanted) wanted ∙ same_as_itself wanted);
    }

-- a rule that doesn't begin is what is wanted
pub wants_far : {A : Type 0} {R : Rule A} (s : List ℕ) (wanted : Part) (r : Option Stop)
    → r ≡ Some (stop_at (length s) (only wanted)) → ¬ (Begins R s) → IsFarthest (Wants R wanted) s r
wants_far s wanted r e none =
    wanted_far s wanted r e (record { here = refl; is = refl; none = none }) (λ place part m. (m.here, m.is))

pub not_wanted : {A : Type 0} {R : Rule A} (s : List ℕ) (wanted : Part) → Begins R s → IsFarthest (Wants R wanted) s None
not_wanted s wanted begins = record { found = λ place part m. m.none begins }

-- the farthest stop after the one match of a rule
pub after_far : {A : Type 0} {f : Reader A} {R : Rule A} {M : Misses} → Exact f R → (s middle : List ℕ) (shape : A) (stop : Option Stop)
    → R s middle shape → IsFarthest M middle stop → IsFarthest (After R M) s stop
after_far {R = R} {M = M} exact s middle shape stop match far =
    far_same {M = M} {N = After R M} middle s stop (λ place part m. record { middle = middle; shape = shape; before = match; misses = m })
    (λ place part m. subst (λ (t : List ℕ). M t place part) (ap (λ x. x.1) (same_match exact s _ _ _ _ m.before match)) m.misses) far

pub no_after : {A : Type 0} {R : Rule A} {M : Misses} (s : List ℕ) → ¬ (Begins R s) → IsFarthest (After R M) s None
no_after s none = record { found = λ place part m. none (record { rest = m.middle; shape = m.shape; match = m.before }) }
