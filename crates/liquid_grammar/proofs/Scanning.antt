-- The faults of lists of parts, and of parts after something else.
use Rattle.std.proofs.Common.{◌≡◌, ℕ, List, ◌∷◌, Option, Some, None, option_map, option_and_then, Bor, refl, sym, ap, ap₂, ◌∙◌}
use Rattle.std.specs.Option.{option_or}
use Rattle.liquid_grammar.specs.meaning.Rules.{Rule}
use Rattle.liquid_grammar.specs.meaning.Values.{Value}
use Rattle.liquid_grammar.specs.meaning.Tokens.{Argument, Filter}
use Rattle.liquid_grammar.specs.declared.fault.Fault.{Fault as CodeFault}
use Rattle.liquid_grammar.specs.meaning.Faults.{Fault, first_fault, value_fault, argument_fault, filter_fault, chain_fault, range_fault}
use Rattle.liquid_grammar.specs.meaning.Meanings.{Scanned, Scans, scan, scanned_of, faults_of}
use Rattle.liquid_grammar.specs.steps.Steps.{Reader, both, right, left}
use Rattle.liquid_grammar.specs.steps.TokenSteps.{
  placed,
  repeated,
  separated,
  following,
  argument,
  arguments,
  value,
  filter,
  chain_of,
  range_start,
  dots,
  range_end,
  ranged,
}
use Rattle.liquid_grammar.specs.steps.BracketSteps.{adds}
use Rattle.liquid_grammar.proofs.Exact.{Exact, Shrinks}
use Rattle.liquid_grammar.proofs.ExactRepeated.{repeated_more, repeated_end}
use Rattle.liquid_grammar.proofs.ValueScan.{scan_some, scan_none}
use Rattle.liquid_grammar.proofs.FlatBrackets.{left_some, left_none, faults_or, or_none}
use Rattle.liquid_grammar.proofs.TokenExact.{exact-following, shrinks-following, exact-filter}

more_shape : {A : Type 0} (fault : A → Option Fault) (x : A) (o : Option (List A × List ℕ))
    → let cons : List A × List ℕ → List A × List ℕ = λ b. (x ∷ b.0, b.1) in
    scan (first_fault fault) (option_map cons o) ≡ adds (fault x) (scan (first_fault fault) o)
more_shape fault x (Some b) = refl
more_shape fault x None = refl

-- one more part
pub repeated_scan_more : {A : Type 0} {f : Reader A} {R : Rule A} → Exact f R → Shrinks R
    → (fault : A → Option Fault) (s rest : List ℕ) (g : Option Fault) → Some (g, rest) ≡ scan fault (f s)
    → scan (first_fault fault) (repeated f s) ≡ adds g (scan (first_fault fault) (repeated f rest))
repeated_scan_more {f = f} F less fault s rest g e =
    let x = scan_some fault (f s) g rest e in
    ap (scan (first_fault fault)) (repeated_more F less s x.0 x.1) ∙ more_shape fault x.0.0 (repeated f x.0.1)
    ∙ ap₂ (λ h t. adds h (scan (first_fault fault) (repeated f t))) x.2 x.3

pub repeated_scan_end : {A : Type 0} (f : Reader A) (fault : A → Option Fault) (s : List ℕ) → None ≡ scan fault (f s)
    → scan (first_fault fault) (repeated f s) ≡ Some (None, s)
repeated_scan_end f fault s e = ap (scan (first_fault fault)) (repeated_end f s (scan_none fault (f s) e))

-- what two readers, one after the other, find
pub both_some : {A B : Type 0} (f : Reader A) (g : Reader B) (s : List ℕ) (a : A × List ℕ) (b : B × List ℕ) → f s ≡ Some a
    → g a.1 ≡ Some b → both f g s ≡ Some ((a.0, b.0), b.1)
both_some {A} {B} f g s a b e h =
    let next : A × List ℕ → Option ((A × B) × List ℕ) = λ x. option_map (λ y. ((x.0, y.0), y.1)) (g x.1) in
    ap (option_and_then next) e ∙ ap (option_map (λ y. ((a.0, y.0), y.1))) h

pub right_some : {A B : Type 0} (f : Reader A) (g : Reader B) (s : List ℕ) (a : A × List ℕ) (b : B × List ℕ) → f s ≡ Some a
    → g a.1 ≡ Some b → right f g s ≡ Some b
right_some {A} {B} f g s a b e h =
    let second : (A × B) × List ℕ → B × List ℕ = λ x. (x.0.1, x.1) in
    ap (option_map second) (both_some f g s a b e h)

pub left_found : {A B : Type 0} (f : Reader A) (g : Reader B) (s : List ℕ) (a : A × List ℕ) (b : B × List ℕ) → f s ≡ Some a
    → g a.1 ≡ Some b → left f g s ≡ Some (a.0, b.1)
left_found {A} {B} f g s a b e h =
    let first : (A × B) × List ℕ → A × List ℕ = λ x. (x.0.0, x.1) in
    ap (option_map first) (both_some f g s a b e h)

-- an argument, and those after commas
pub arguments_scan : (s r₀ r₁ r₂ : List ℕ) (g h : Option Fault) → Some r₀ ≡ option_map (λ p. p.1) (separated 58 s)
    → Some (g, r₁) ≡ scan argument_fault (argument r₀)
    → Some (h, r₂) ≡ scan (first_fault argument_fault) (repeated (following 44 argument) r₁)
    → Some (option_or g h, r₂) ≡ scan (first_fault argument_fault) (arguments s)
unfolding arguments
arguments_scan s r₀ r₁ r₂ g h e₀ e₁ e₂ =
    let x₀ = left_some (separated 58 s) r₀ e₀ in
    let x₁ = scan_some argument_fault (argument r₀) g r₁ e₁ in
    let x₂ = scan_some (first_fault argument_fault) (repeated (following 44 argument) r₁) h r₂ e₂ in
    let first = right_some (separated 58) argument s x₀.0 x₁.0 x₀.1 (ap argument x₀.2 ∙ x₁.1) in
    let both_found = both_some (following 58 argument) (repeated (following 44 argument)) s x₁.0 x₂.0 first
    (ap (repeated (following 44 argument)) x₁.3 ∙ x₂.1) in
    let make : (Argument × List Argument) × List ℕ → List Argument × List ℕ = λ a. (a.0.0 ∷ a.0.1, a.1) in
    let w : Option Fault → Option Fault → List ℕ → Option Scanned = λ a b t. Some (option_or a b, t) in
    sym (ap (λ o. scan (first_fault argument_fault) (option_map make o)) both_found
    ∙ ap (λ t. w (argument_fault x₁.0.0) (first_fault argument_fault x₂.0.0) t) x₂.3
    ∙ ap₂ (λ a b. w a b r₂) x₁.2 x₂.2)

-- a value, and filters after it
pub chain_scan : (s r₁ r₂ : List ℕ) (g h : Option Fault) → Some (g, r₁) ≡ scan value_fault (value s)
    → Some (h, r₂) ≡ scan (first_fault filter_fault) (repeated (following 124 filter) r₁)
    → Some (option_or g h, r₂) ≡ scan chain_fault (chain_of s)
unfolding chain_of
chain_scan s r₁ r₂ g h e₁ e₂ =
    let x₁ = scan_some value_fault (value s) g r₁ e₁ in
    let x₂ = scan_some (first_fault filter_fault) (repeated (following 124 filter) r₁) h r₂ e₂ in
    let both_found = both_some value (repeated (following 124 filter)) s x₁.0 x₂.0 x₁.1
    (ap (repeated (following 124 filter)) x₁.3 ∙ x₂.1) in
    let w : Option Fault → Option Fault → List ℕ → Option Scanned = λ a b t. Some (option_or a b, t) in
    sym (ap (λ o. scan chain_fault (option_map (placed s) o)) both_found
    ∙ ap (λ t. w (value_fault x₁.0.0) (first_fault filter_fault x₂.0.0) t) x₂.3 ∙ ap₂ (λ a b. w a b r₂) x₁.2 x₂.2)

-- two values of a range
pub range_scan : (s r₀ r₁ r₂ r₃ r₄ : List ℕ) (g h : Option Fault) → Some r₀ ≡ option_map (λ p. p.1) (range_start s)
    → Some (g, r₁) ≡ scan value_fault (value r₀)
    → Some r₂ ≡ option_map (λ p. p.1) (dots r₁) → Some (h, r₃) ≡ scan value_fault (value r₂)
    → Some r₄ ≡ option_map (λ p. p.1) (range_end r₃)
    → Some (option_or g h, r₄) ≡ scan range_fault (ranged s)
unfolding ranged
range_scan s r₀ r₁ r₂ r₃ r₄ g h e₀ e₁ e₂ e₃ e₄ =
    let x₀ = left_some (range_start s) r₀ e₀ in
    let x₁ = scan_some value_fault (value r₀) g r₁ e₁ in
    let x₂ = left_some (dots r₁) r₂ e₂ in
    let x₃ = scan_some value_fault (value r₂) h r₃ e₃ in
    let x₄ = left_some (range_end r₃) r₄ e₄ in
    let first = left_found value dots r₀ x₁.0 x₂.0 x₁.1 (ap dots x₁.3 ∙ x₂.1) in
    let values = both_some (left value dots) value r₀ (x₁.0.0, x₂.0.1) x₃.0 first (ap value x₂.2 ∙ x₃.1) in
    let inner = right_some range_start (both (left value dots) value) s x₀.0 ((x₁.0.0, x₃.0.0), x₃.0.1) x₀.1
    (ap (both (left value dots) value) x₀.2 ∙ values) in
    let whole = left_found (right range_start (both (left value dots) value)) range_end s ((x₁.0.0, x₃.0.0), x₃.0.1) x₄.0 inner
    (ap range_end x₃.3 ∙ x₄.1) in
    let w : Option Fault → Option Fault → List ℕ → Option Scanned = λ a b t. Some (option_or a b, t) in
    sym (ap (scan range_fault) whole ∙ ap (λ t. w (value_fault x₁.0.0) (value_fault x₃.0.0) t) x₄.2 ∙ ap₂ (λ a b. w a b r₄) x₁.2 x₃.2)

-- the first of two faults, as the program and as the definitions have it
pub joined_fault : (a b r : Option CodeFault) (t : List ℕ) → r ≡ option_or a b → ◌≡◌ {A = Option Scanned} (Some (faults_of r, t))
    (Some (option_or (faults_of a) (faults_of b), t))
joined_fault a b r t e = let w : Option Fault → Option Scanned = λ y. Some (y, t) in ap w (ap faults_of e ∙ faults_or a b)

-- nothing is found where one of two readers finds nothing
pub both_none : {A B : Type 0} (f : Reader A) (g : Reader B) (s : List ℕ) → f s ≡ None → both f g s ≡ None
both_none {A} {B} f g s e =
    let next : A × List ℕ → Option ((A × B) × List ℕ) = λ x. option_map (λ y. ((x.0, y.0), y.1)) (g x.1) in
    ap (option_and_then next) e

pub both_none_after : {A B : Type 0} (f : Reader A) (g : Reader B) (s : List ℕ) (a : A × List ℕ) → f s ≡ Some a → g a.1 ≡ None
    → both f g s ≡ None
both_none_after {A} {B} f g s a e h =
    let next : A × List ℕ → Option ((A × B) × List ℕ) = λ x. option_map (λ y. ((x.0, y.0), y.1)) (g x.1) in
    ap (option_and_then next) e ∙ ap (option_map (λ y. ((a.0, y.0), y.1))) h

right_of_none : {A B : Type 0} (f : Reader A) (g : Reader B) (s : List ℕ) → both f g s ≡ None → right f g s ≡ None
right_of_none {A} {B} f g s e = let second : (A × B) × List ℕ → B × List ℕ = λ x. (x.0.1, x.1) in ap (option_map second) e

left_of_none : {A B : Type 0} (f : Reader A) (g : Reader B) (s : List ℕ) → both f g s ≡ None → left f g s ≡ None
left_of_none {A} {B} f g s e = let first : (A × B) × List ℕ → A × List ℕ = λ x. (x.0.0, x.1) in ap (option_map first) e

-- the values between the parentheses of a range
abbrev range_values : Reader (Value × Value)
range_values = both (left value dots) value

not_ranged : (s : List ℕ) → right range_start range_values s ≡ None → None ≡ scan range_fault (ranged s)
unfolding ranged
not_ranged s e = sym (ap (scan range_fault) (left_of_none (right range_start range_values) range_end s
    (both_none (right range_start range_values) range_end s e)))

pub range_no_start : (s : List ℕ) → None ≡ option_map (λ p. p.1) (range_start s) → None ≡ scan range_fault (ranged s)
range_no_start s e = not_ranged s (right_of_none range_start range_values s
    (both_none range_start range_values s (left_none (range_start s) e)))

no_values : (s r₀ : List ℕ) → Some r₀ ≡ option_map (λ p. p.1) (range_start s) → range_values r₀ ≡ None → None ≡ scan range_fault (ranged s)
no_values s r₀ e h =
    let x = left_some (range_start s) r₀ e in
    not_ranged s (right_of_none range_start range_values s (both_none_after range_start range_values s x.0 x.1 (ap range_values x.2 ∙ h)))

pub range_no_first : (s r₀ : List ℕ) → Some r₀ ≡ option_map (λ p. p.1) (range_start s) → None ≡ scan value_fault (value r₀)
    → None ≡ scan range_fault (ranged s)
range_no_first s r₀ e h =
    let none = left_of_none value dots r₀ (both_none value dots r₀ (scan_none value_fault (value r₀) h)) in
    no_values s r₀ e (both_none (left value dots) value r₀ none)

pub range_no_dots : (s r₀ r₁ : List ℕ) (g : Option Fault) → Some r₀ ≡ option_map (λ p. p.1) (range_start s)
    → Some (g, r₁) ≡ scan value_fault (value r₀) → None ≡ option_map (λ p. p.1) (dots r₁) → None ≡ scan range_fault (ranged s)
range_no_dots s r₀ r₁ g e f h =
    let x = scan_some value_fault (value r₀) g r₁ f in
    let none = left_of_none value dots r₀ (both_none_after value dots r₀ x.0 x.1 (ap dots x.3 ∙ left_none (dots r₁) h)) in
    no_values s r₀ e (both_none (left value dots) value r₀ none)

first_value : (r₀ r₁ r₂ : List ℕ) (g : Option Fault) → Some (g, r₁) ≡ scan value_fault (value r₀)
    → Some r₂ ≡ option_map (λ p. p.1) (dots r₁) → (v : Value × List ℕ) × (left value dots r₀ ≡ Some v) × (v.1 ≡ r₂)
first_value r₀ r₁ r₂ g f h =
    let x = scan_some value_fault (value r₀) g r₁ f in
    let y = left_some (dots r₁) r₂ h in
    ((x.0.0, y.0.1), left_found value dots r₀ x.0 y.0 x.1 (ap dots x.3 ∙ y.1), y.2)

pub range_no_second : (s r₀ r₁ r₂ : List ℕ) (g : Option Fault) → Some r₀ ≡ option_map (λ p. p.1) (range_start s)
    → Some (g, r₁) ≡ scan value_fault (value r₀) → Some r₂ ≡ option_map (λ p. p.1) (dots r₁)
    → None ≡ scan value_fault (value r₂) → None ≡ scan range_fault (ranged s)
range_no_second s r₀ r₁ r₂ g e f h k =
    let v = first_value r₀ r₁ r₂ g f h in
    no_values s r₀ e (both_none_after (left value dots) value r₀ v.0 v.1 (ap value v.2 ∙ scan_none value_fault (value r₂) k))

pub range_no_end : (s r₀ r₁ r₂ r₃ : List ℕ) (g h : Option Fault) → Some r₀ ≡ option_map (λ p. p.1) (range_start s)
    → Some (g, r₁) ≡ scan value_fault (value r₀) → Some r₂ ≡ option_map (λ p. p.1) (dots r₁)
    → Some (h, r₃) ≡ scan value_fault (value r₂) → None ≡ option_map (λ p. p.1) (range_end r₃) → None ≡ scan range_fault (ranged s)
unfolding ranged
range_no_end s r₀ r₁ r₂ r₃ g h e₀ e₁ e₂ e₃ e₄ =
    let x₀ = left_some (range_start s) r₀ e₀ in
    let v = first_value r₀ r₁ r₂ g e₁ e₂ in
    let x₃ = scan_some value_fault (value r₂) h r₃ e₃ in
    let values = both_some (left value dots) value r₀ v.0 x₃.0 v.1 (ap value v.2 ∙ x₃.1) in
    let inner = right_some range_start range_values s x₀.0 ((v.0.0, x₃.0.0), x₃.0.1) x₀.1 (ap range_values x₀.2 ∙ values) in
    sym (ap (scan range_fault) (left_of_none (right range_start range_values) range_end s
    (both_none_after (right range_start range_values) range_end s ((v.0.0, x₃.0.0), x₃.0.1) inner
    (ap range_end x₃.3 ∙ left_none (range_end r₃) e₄))))

-- what an early return of None says about a range
pub no_range : (s : List ℕ) (r : Option (Bor (List ℕ) × Bor (List ℕ) × Option CodeFault × Bor (List ℕ))) → r ≡ None
    → None ≡ scan range_fault (ranged s) → Scans range_fault (option_map (λ p. (p.2, p.3)) r) (ranged s)
no_range s r e h =
    let seen : Option (Bor (List ℕ) × Bor (List ℕ) × Option CodeFault × Bor (List ℕ)) → Option Scanned =
    λ r. option_map scanned_of (option_map (λ p. (p.2, p.3)) r) in
    ap seen e ∙ h

abbrev next_filter : Reader Filter
next_filter = following 124 filter

-- a value without filters, one with filters, and none
pub chain_end : (s rest : List ℕ) (g : Option Fault) → Some (g, rest) ≡ scan value_fault (value s)
    → None ≡ scan filter_fault (next_filter rest) → ◌≡◌ {A = Option Scanned} (Some (g, rest)) (scan chain_fault (chain_of s))
chain_end s rest g e f =
    let w : Option Fault → Option Scanned = λ y. Some (y, rest) in
    ap w (sym (or_none g)) ∙ chain_scan s rest rest g None e (sym (repeated_scan_end next_filter filter_fault rest f))

pub chain_more : (s rest after end : List ℕ) (a b c t r : Option CodeFault) → t ≡ option_or b c → r ≡ option_or a t
    → Some (faults_of a, rest) ≡ scan value_fault (value s)
    → Some (faults_of b, after) ≡ scan filter_fault (next_filter rest) → Some (faults_of c, end) ≡ scan (first_fault filter_fault)
    (repeated next_filter after) → ◌≡◌ {A = Option Scanned} (Some (faults_of r, end)) (scan chain_fault (chain_of s))
chain_more s rest after end a b c t r inner outer e f g =
    let filters = repeated_scan_more (exact-following 124 exact-filter) (shrinks-following 124 exact-filter) filter_fault rest after
    (faults_of b) f in
    joined_fault a t r end outer ∙ chain_scan s rest end (faults_of a) (faults_of t) e
    (joined_fault b c t end inner ∙ ap (adds (faults_of b)) g ∙ sym filters)

pub no_chain_scan : (s : List ℕ) → None ≡ scan value_fault (value s) → None ≡ scan chain_fault (chain_of s)
unfolding chain_of
no_chain_scan s e = sym (ap (λ o. scan chain_fault (option_map (placed s) o))
    (both_none value (repeated next_filter) s (scan_none value_fault (value s) e)))
