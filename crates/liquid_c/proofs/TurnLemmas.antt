-- One turn more, the turns at their end, and turns of which less is said.
use Rattle.std.proofs.Common.{
  ◌≡◌,
  ℕ,
  zero,
  suc,
  ◌+◌,
  ◌<◌,
  ◌≤◌,
  nat_eq,
  Bool,
  if◌then◌else◌,
  List,
  [],
  ◌∷◌,
  ◌++◌,
  length,
  map,
  take,
  drop,
  set,
  get_or,
  refl,
  sym,
  ap,
  subst,
  ◌∙◌,
  arith,
}
use Rattle.std.proofs.Math.Dec.{eqb-suc-zero}
use Rattle.std.proofs.lemmas.List.{drop-drop, drop-set-lt, map-append, take-map, take_more, take_more_set}
use Rattle.liquid_c.specs.declared.page.Outcome.{Outcome}
use Rattle.liquid_c.specs.meaning.Turns.{AllTurns, InTurn, begun, rendered, one_if_whole}
use Rattle.liquid_c.specs.steps.Chosen.{IsRefused}

one_more : {X : Type 0} (f : X → List ℕ) (xs : List X) (n : ℕ) (d : X) → n < length xs → map f (take (n + 1) xs) ≡ map f (take n xs)
    ++ f (get_or xs n d) ∷ []
one_more f xs n d within = ap (map f) (take_more xs n d within) ∙ map-append f (take n xs) (get_or xs n d ∷ [])

pub next_turn : {X : Type 0} (f : X → List ℕ) (P : List ℕ → List ℕ → List ℕ → Outcome → Type 0) (old : List ℕ) (xs : List X)
    (os : List Outcome) (before after : List ℕ) (used whole n more : ℕ) (d : X) (o : Outcome)
    → n < length xs → n < length os → InTurn P old (map f (take n xs)) (take n os) before used whole
    → take used after ≡ take used before → P (f (get_or xs n d)) (drop used before) (drop used after) o → more ≡ one_if_whole o
    → InTurn P old (map f (take (n + 1) xs)) (take (n + 1) (set os n o)) after (used + o.written) (whole + more)
next_turn f P old xs os before after used whole n more d o within room turns front leaves is =
    subst (λ k. InTurn P old (map f (take (n + 1) xs)) (take (n + 1) (set os n o)) after (used + o.written) (whole + k)) (sym is)
    (subst (λ gs. InTurn P old gs (take (n + 1) (set os n o)) after (used + o.written) (whole + one_if_whole o))
    (sym (one_more f xs n d within))
    (subst (λ left. InTurn P old (map f (take n xs) ++ f (get_or xs n d) ∷ []) left after (used + o.written) (whole + one_if_whole o))
    (sym (take_more_set os n o room))
    (rendered turns front leaves)))

pub later_turn : (os first : List Outcome) (n : ℕ) (o : Outcome) → drop n os ≡ drop n first → drop (n + 1) (set os n o) ≡ drop (n + 1) first
later_turn os first n o same =
    drop-set-lt (n + 1) os n o (omega arith) ∙ sym (drop-drop 1 n os) ∙ ap (drop 1) same ∙ drop-drop 1 n first

-- the turns at their end
pub all_turns : {X : Type 0} (f : X → List ℕ) (P : List ℕ → List ℕ → List ℕ → Outcome → Type 0) (old new : List ℕ) (xs : List X)
    (first os : List Outcome) (used whole n count : ℕ)
    → n ≡ count → InTurn P old (map f (take n xs)) (take n os) new used whole → drop n os ≡ drop n first
    → AllTurns P (map f xs) old new first os count whole
all_turns f P old new xs first os used whole n count is turns same =
    subst (λ k. AllTurns P (map f xs) old new first os k whole) is
    (record { used = used; turns = subst (λ gs. InTurn P old gs (take n os) new used whole) (sym (take-map f n xs)) turns; later = same })

-- a turn of a page that is refused
abbrev one_if : Bool → ℕ
one_if b = if b then 1 else 0

none_counted : (k : ℕ) → 1 ≤ k → 0 ≡ one_if (nat_eq k 0)
none_counted zero some = absurd (omega (arith, some))
none_counted (suc k) some = sym (ap one_if (eqb-suc-zero k))

pub refused_turn : {X : Type 0} (f : X → List ℕ) (o : Outcome) (out : List ℕ) (xs : List X) (os : List Outcome) (n : ℕ)
    → n < length xs → n < length os → 1 ≤ o.kind → o.written ≡ 0 → InTurn (IsRefused o) out (map f (take n xs)) (take n os) out 0 0
    → InTurn (IsRefused o) out (map f (take (n + 1) xs)) (take (n + 1) (set os n o)) out 0 0
refused_turn f o out [] os n within room some nothing turns = absurd (omega (arith, within))
refused_turn f o out (x ∷ xs) os n within room some nothing turns =
    subst (λ u. InTurn (IsRefused o) out (map f (take (n + 1) (x ∷ xs))) (take (n + 1) (set os n o)) out u 0)
    (ap (λ w. 0 + w) nothing)
    (next_turn f (IsRefused o) out (x ∷ xs) os out out 0 0 n 0 x o within room turns refl (refl, refl) (none_counted o.kind some))

-- turns of which P is said, where P leads to Q
module _ {P Q : List ℕ → List ℕ → List ℕ → Outcome → Type 0}
    (leads : (g old new : List ℕ) (o : Outcome) → P g old new o → Q g old new o) where
  turns_leave : {old new : List ℕ} {gs : List (List ℕ)} {os : List Outcome} {used whole : ℕ} → InTurn P old gs os new used whole
      → InTurn Q old gs os new used whole
  turns_leave begun = begun
  turns_leave (rendered turns front leaves) = rendered (turns_leave turns) front (leads _ _ _ _ leaves)

  pub all_leave : {globals : List (List ℕ)} {old new : List ℕ} {outcomes left : List Outcome} {count whole : ℕ}
      → AllTurns P globals old new outcomes left count whole → AllTurns Q globals old new outcomes left count whole
  all_leave all = record { used = all.used; turns = turns_leave all.turns; later = all.later }
