-- The faults of values and of their indexes, found from left to right.
use Rattle.std.proofs.Common.{◌≡◌, ℕ, List, ◌∷◌, Option, Some, None, option_map, option_and_then, refl, sym, ap, ap₂, ◌∙◌}
use Rattle.std.proofs.lemmas.Option.{same_Some, none-some}
use Rattle.std.specs.Option.{option_or}
use Rattle.liquid_grammar.specs.meaning.Rules.{Placed}
use Rattle.liquid_grammar.specs.meaning.Literals.{Literal}
use Rattle.liquid_grammar.specs.meaning.Values.{Value, Index, gather, placed_literal, placed_variable}
use Rattle.liquid_grammar.specs.meaning.Faults.{Fault, literal_fault, index_fault, indexes_fault, value_fault}
use Rattle.liquid_grammar.specs.declared.fault.Fault.{Fault as CodeFault}
use Rattle.liquid_grammar.specs.meaning.Meanings.{Scanned, scan, faults_of}
use Rattle.liquid_grammar.specs.steps.Steps.{name}
use Rattle.liquid_grammar.specs.steps.TokenSteps.{placed, literal, value, variable_over}
use Rattle.liquid_grammar.specs.steps.BracketSteps.{adds, index, indexes}
use Rattle.liquid_grammar.proofs.ExactRepeated.{repeated_more, repeated_end}
use Rattle.liquid_grammar.proofs.TokenExact.{exact-value, exact-index, shrinks-index}
use Rattle.liquid_grammar.proofs.FlatBrackets.{faults_or}
use Rattle.liquid_grammar.proofs.ValueLaw.{value_reads}

-- what a call scanned is what the reader found
pub scan_some : {A : Type 0} (fault : A → Option Fault) (o : Option (A × List ℕ)) (g : Option Fault) (rest : List ℕ)
    → Some (g, rest) ≡ scan fault o → (x : A × List ℕ) × (o ≡ Some x) × (fault x.0 ≡ g) × (x.1 ≡ rest)
scan_some fault (Some x) g rest e = let q =
    same_Some _ _ e in (x, refl, sym (ap (λ (p : Scanned). p.0) q), sym (ap (λ (p : Scanned). p.1) q))
scan_some fault None g rest e = absurd (none-some _ (sym e))

pub scan_none : {A : Type 0} (fault : A → Option Fault) (o : Option (A × List ℕ)) → None ≡ scan fault o → o ≡ None
scan_none fault (Some x) e = absurd (none-some _ e)
scan_none fault None e = refl

abbrev pub list_fault : List Index → Option Fault
list_fault found = indexes_fault 0 (gather found)

more_shape : (i : Index) (o : Option (List Index × List ℕ))
    → let cons : List Index × List ℕ → List Index × List ℕ = λ b. (i ∷ b.0, b.1) in
    scan list_fault (option_map cons o) ≡ adds (index_fault 0 i) (scan list_fault o)
more_shape i (Some b) = refl
more_shape i None = refl

-- one more index
pub indexes_more : (s rest : List ℕ) (g : Option Fault) → Some (g, rest) ≡ scan (index_fault 0) (index s)
    → scan list_fault (indexes s) ≡ adds g (scan list_fault (indexes rest))
indexes_more s rest g e =
    let x = scan_some (index_fault 0) (index s) g rest e in
    ap (scan list_fault) (repeated_more (exact-index exact-value) (shrinks-index exact-value) s x.0 x.1) ∙ more_shape x.0.0 (indexes x.0.1)
    ∙ ap₂ (λ f t. adds f (scan list_fault (indexes t))) x.2 x.3

pub indexes_end : (s : List ℕ) → None ≡ scan (index_fault 0) (index s) → scan list_fault (indexes s) ≡ Some (None, s)
indexes_end s e = ap (scan list_fault) (repeated_end index s (scan_none (index_fault 0) (index s) e))

-- a literal, otherwise a variable
pub value_literal : (s rest : List ℕ) (l : Literal) (g : Option Fault) → Some (l, rest) ≡ literal s → g ≡ literal_fault s l
    → Some (g, rest) ≡ scan value_fault (value s)
value_literal s rest l g e f =
    let make : Placed Literal × List ℕ → Value × List ℕ = λ a. (placed_literal a.0, a.1) in
    let w : Option Fault → Option Scanned = λ y. Some (y, rest) in
    ap w f ∙ ap (λ o. scan value_fault (option_or (option_map make (option_map (placed s) o)) (variable_over value s))) e
    ∙ sym (ap (scan value_fault) (value_reads s))

pub value_variable : (s : List ℕ) (r : Option Scanned) → None ≡ literal s → r ≡ scan value_fault (variable_over value s)
    → r ≡ scan value_fault (value s)
value_variable s r e f =
    let make : Placed Literal × List ℕ → Value × List ℕ = λ a. (placed_literal a.0, a.1) in
    f ∙ ap (λ o. scan value_fault (option_or (option_map make (option_map (placed s) o)) (variable_over value s))) e
    ∙ sym (ap (scan value_fault) (value_reads s))

-- a name and its indexes
variable_shape : (s : List ℕ) (n : List ℕ) (o : Option (List Index × List ℕ))
    → let pair : List Index × List ℕ → (List ℕ × List Index) × List ℕ = λ b. ((n, b.0), b.1) in
    let make : Placed (List ℕ × List Index) × List ℕ → Value × List ℕ = λ a. (placed_variable a.0, a.1) in
    scan value_fault (option_map make (option_map (placed s) (option_map pair o))) ≡ scan list_fault o
variable_shape s n (Some b) = refl
variable_shape s n None = refl

pub variable_scan : (s rest n : List ℕ) (r : Option Scanned) → Some (n, rest) ≡ name s → r ≡ scan list_fault (indexes rest)
    → r ≡ scan value_fault (variable_over value s)
variable_scan s rest n r e f =
    let make : Placed (List ℕ × List Index) × List ℕ → Value × List ℕ = λ a. (placed_variable a.0, a.1) in
    let and_indexes : List ℕ × List ℕ → Option ((List ℕ × List Index) × List ℕ) = λ a. option_map (λ b. ((a.0, b.0), b.1)) (indexes a.1) in
    f ∙ sym (variable_shape s n (indexes rest))
    ∙ ap (λ o. scan value_fault (option_map make (option_map (placed s) (option_and_then and_indexes o)))) e

pub no_variable : (s : List ℕ) → None ≡ name s → None ≡ scan value_fault (variable_over value s)
no_variable s e =
    let make : Placed (List ℕ × List Index) × List ℕ → Value × List ℕ = λ a. (placed_variable a.0, a.1) in
    let and_indexes : List ℕ × List ℕ → Option ((List ℕ × List Index) × List ℕ) = λ a. option_map (λ b. ((a.0, b.0), b.1)) (indexes a.1) in
    ap (λ o. scan value_fault (option_map make (option_map (placed s) (option_and_then and_indexes o)))) e

pub no_value_scan : (s : List ℕ) → None ≡ literal s → None ≡ name s → None ≡ scan value_fault (value s)
no_value_scan s none e = value_variable s None none (no_variable s e)

-- a name without an index, and a name with an index and all indexes after it
pub variable_end : (s rest n : List ℕ) → None ≡ literal s → Some (n, rest) ≡ name s → None ≡ scan (index_fault 0) (index rest)
    → ◌≡◌ {A = Option Scanned} (Some (None, rest)) (scan value_fault (value s))
variable_end s rest n none e f = value_variable s _ none (variable_scan s rest n _ e (sym (indexes_end rest f)))

pub variable_more : (s rest after end n : List ℕ) (a b r : Option CodeFault) → r ≡ option_or a b → None ≡ literal s
    → Some (n, rest) ≡ name s → Some (faults_of a, after) ≡ scan (index_fault 0) (index rest)
    → Some (faults_of b, end) ≡ scan list_fault (indexes after) → ◌≡◌ {A = Option Scanned} (Some (faults_of r, end))
    (scan value_fault (value s))
variable_more s rest after end n a b r or none e f g =
    let w : Option Fault → Option Scanned = λ y. Some (y, end) in
    let joined = ap w (ap faults_of or ∙ faults_or a b) in
    value_variable s _ none (variable_scan s rest n _ e (joined ∙ ap (adds (faults_of a)) g
    ∙ sym (indexes_more rest after (faults_of a) f)))
