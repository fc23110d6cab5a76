-- The rule of values is the rule over itself, no matter how deep brackets are nested.
use Rattle.std.proofs.Common.{
  ◌≡◌,
  ℕ,
  zero,
  suc,
  ◌<◌,
  ◌≤◌,
  List,
  ◌∷◌,
  length,
  Option,
  Some,
  None,
  option_map,
  option_and_then,
  refl,
  sym,
  ap,
  ◌∙◌,
  arith,
  ◌↔◌,
}
use Rattle.std.specs.Option.{option_or}
use Rattle.liquid_grammar.specs.meaning.Rules.{Rule, Placed}
use Rattle.liquid_grammar.specs.meaning.Values.{
  Value,
  Index,
  named_index,
  placed_literal,
  placed_variable,
  placed_bracket,
  ValueOver,
  ValueRule,
}
use Rattle.liquid_grammar.specs.steps.Steps.{Reader, both, seen}
use Rattle.liquid_grammar.specs.steps.TokenSteps.{
  at,
  placed,
  repeat_turn,
  repeated_by,
  repeated,
  close_bracket,
  bracketed_over,
  named,
  index_over,
  literal,
  value_over,
  value_by,
  value,
}
use Rattle.liquid_grammar.proofs.Exact.{Exact, Shrinks, cuts_le}
use Rattle.liquid_grammar.proofs.GrammarExact.{exact-name}
use Rattle.liquid_grammar.proofs.TokenExact.{
  exact-index,
  exact-nested,
  exact-value,
  exact-value_over,
  shrinks-name,
  exact-open_bracket,
  shrinks-open_bracket,
}

-- two readers find the same in each text that is shorter
abbrev Agree : {A : Type 0} → ℕ → Reader A → Reader A → Type 0
Agree m f g = (t : List ℕ) → length t < m → f t ≡ g t

-- a shape, and what f finds after it
abbrev pub and_after : {A B : Type 0} → Reader A → B × List ℕ → Option ((B × A) × List ℕ)
and_after f a = option_map (λ b. ((a.0, b.0), b.1)) (f a.1)

agree_after : {A B : Type 0} {h : Reader B} {R : Rule B} (m : ℕ) (f g : Reader A) → Exact h R → Shrinks R → Agree m f g → (s : List ℕ)
    → length s ≤ m → both h f s ≡ both h g s
agree_after {A} {B} {h = h} m f g F less agree s within = go (h s) refl
  where
    go : (o : Option (B × List ℕ)) → h s ≡ o → option_and_then (and_after f) o ≡ option_and_then (and_after g) o
    go None e = refl
    go (Some x) e =
        let k : A × List ℕ → (B × A) × List ℕ = λ b. ((x.0, b.0), b.1) in
        let l = less s x.1 x.0 (F.sound s x.1 x.0 e) in
        ap (option_map k) (agree x.1 (omega arith))

agree_repeated : {A : Type 0} (m : ℕ) (f g : Reader A) {R : Rule A} → Exact g R → Agree m f g → (n : ℕ) (s : List ℕ) → length s < m
    → repeated_by n f s ≡ repeated_by n g s
unfolding repeated_by
agree_repeated m f g G agree zero s h = refl
agree_repeated {A} m f g G agree (suc n) s h =
    ap (λ o. repeat_turn o s (repeated_by n f)) (agree s h) ∙ go (g s) refl (λ t l. agree_repeated m f g G agree n t l)
  where
    go : (o : Option (A × List ℕ)) → g s ≡ o → ((t : List ℕ) → length t < m → repeated_by n f t ≡ repeated_by n g t)
        → repeat_turn o s (repeated_by n f) ≡ repeat_turn o s (repeated_by n g)
    go None e rec = refl
    go (Some x) e rec =
        let l = cuts_le G.cuts s x.1 x.0 (G.sound s x.1 x.0 e) in
        ap (option_map (λ b. (x.0 ∷ b.0, b.1))) (rec x.1 (omega arith))

-- what closes brackets after what was found in them
abbrev closed : Option (Value × List ℕ) → Option (Value × List ℕ)
closed o = option_map (λ a. (a.0.0, a.1)) (option_and_then (and_after close_bracket) o)

agree_bracketed : (m : ℕ) (f g : Reader Value) → Agree m f g → (s : List ℕ) → length s ≤ m → bracketed_over f s ≡ bracketed_over g s
agree_bracketed m f g agree s h =
    let inner : (List ℕ × Value) × List ℕ → Value × List ℕ = λ a. (a.0.1, a.1) in
    ap (λ o. closed (option_map inner o)) (agree_after m f g exact-open_bracket shrinks-open_bracket agree s h)

agree_index : (m : ℕ) (f g : Reader Value) → Agree m f g → (s : List ℕ) → length s ≤ m → index_over f s ≡ index_over g s
agree_index m f g agree s h =
    let make : Placed Value × List ℕ → Index × List ℕ = λ a. (placed_bracket a.0, a.1) in
    ap (λ o. option_or (seen named_index named s) (option_map make (option_map (placed s) o))) (agree_bracketed m f g agree s h)

agree_value : (m : ℕ) (f g : Reader Value) {R : Rule Value} → Exact g R → Agree m f g → (s : List ℕ) → length s ≤ m
    → value_over f s ≡ value_over g s
unfolding repeated
agree_value m f g G agree s h =
    let make : Placed (List ℕ × List Index) × List ℕ → Value × List ℕ = λ a. (placed_variable a.0, a.1) in
    let indexes : Agree m (repeated (index_over f)) (repeated (index_over g)) =
    λ t l. agree_repeated m (index_over f) (index_over g) (exact-index G) (λ u k. agree_index m f g agree u (omega arith))
    (suc (length t)) t l
    in
    ap (λ o. option_or (seen placed_literal (at literal) s) (option_map make (option_map (placed s) o)))
    (agree_after m (repeated (index_over f)) (repeated (index_over g)) exact-name shrinks-name indexes s h)

value_by_enough : (n m : ℕ) (s : List ℕ) → length s < n → length s < m → value_by n s ≡ value_by m s
unfolding value_by
value_by_enough zero m s h k = absurd (omega arith)
value_by_enough (suc n) zero s h k = absurd (omega arith)
value_by_enough (suc n) (suc m) s h k =
    agree_value (length s) (value_by n) (value_by m) (exact-nested m) (λ t l. value_by_enough n m t (omega arith) (omega arith)) s
    (omega arith)

-- the reader of values is the reader over itself
pub value_reads : (s : List ℕ) → value s ≡ value_over value s
unfolding value value_by
value_reads s =
    agree_value (length s) (value_by (length s)) value exact-value
    (λ t l. value_by_enough (length s) (suc (length t)) t l (omega arith)) s (omega arith)

-- and so is the rule
pub value_law : (s rest : List ℕ) (v : Value) → ValueRule s rest v ↔ ValueOver ValueRule s rest v
value_law s rest v =
    let over = exact-value_over exact-value in (
      λ m. over.sound s rest v (sym (value_reads s) ∙ exact-value.complete s rest v m),
      λ m. exact-value.sound s rest v
          (value_reads s ∙ over.complete s rest v m),
    )
