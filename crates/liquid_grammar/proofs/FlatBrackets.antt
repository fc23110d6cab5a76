-- Nested brackets, matched with a count of those that are open.
use Rattle.std.proofs.Common.{
  ◌≡◌,
  ℕ,
  zero,
  suc,
  pred,
  ◌+◌,
  ◌-◌,
  ◌<◌,
  Bool,
  true,
  false,
  cond,
  ◌==◌,
  List,
  [],
  ◌∷◌,
  Option,
  Some,
  None,
  option_map,
  option_and_then,
  MatchOption,
  refl,
  sym,
  ap,
  ap₂,
  ◌∙◌,
  subst,
  arith,
  eqb-true,
}
use Rattle.std.proofs.lemmas.Option.{same_Some, none-some}
use Rattle.std.specs.Option.{option_or}
use Rattle.liquid_grammar.specs.meaning.Rules.{Placed}
use Rattle.liquid_grammar.specs.meaning.Literals.{Literal}
use Rattle.liquid_grammar.specs.meaning.Values.{
  Value,
  Index,
  named_index,
  bracketed_index,
  gather,
  placed_literal,
  placed_variable,
  placed_bracket,
}
use Rattle.liquid_grammar.specs.meaning.Faults.{Fault, literal_fault, fault_within, index_fault, indexes_fault, deep_fault}
use Rattle.liquid_grammar.specs.declared.fault.Fault.{Fault as CodeFault}
use Rattle.liquid_grammar.specs.meaning.Meanings.{Scanned, scan, faults_of}
use Rattle.liquid_grammar.specs.steps.Steps.{Reader, white, name}
use Rattle.liquid_grammar.specs.steps.BracketSteps.{adds, index, indexes, bracket_index, closing, resume, starts, awaited, going}
use Rattle.liquid_grammar.specs.declared.bracket.Await.{Await}
use Rattle.liquid_grammar.specs.declared.bracket.Open.{Open}
use Rattle.liquid_grammar.specs.steps.TokenSteps.{placed, literal, value, variable_over, bracketed_over, named, open_bracket, close_bracket}
use Rattle.liquid_grammar.proofs.ExactRepeated.{repeated_more, repeated_end}
use Rattle.liquid_grammar.proofs.TokenExact.{exact-value, exact-index, shrinks-index}
use Rattle.liquid_grammar.proofs.ValueLaw.{value_reads}

pub adds_none : (o : Option Scanned) → adds None o ≡ o
adds_none (Some x) = refl
adds_none None = refl

or_assoc : (f g h : Option Fault) → option_or f (option_or g h) ≡ option_or (option_or f g) h
or_assoc (Some x) g h = refl
or_assoc None g h = refl

pub adds_adds : (f g : Option Fault) (o : Option Scanned) → adds f (adds g o) ≡ adds (option_or f g) o
adds_adds f g (Some x) = let w : Option Fault → Option Scanned = λ y. Some (y, x.1) in ap w (or_assoc f g x.0)
adds_adds f g None = refl

pub or_none : (f : Option Fault) → option_or f None ≡ f
or_none (Some x) = refl
or_none None = refl

-- what is found in brackets that are open already
abbrev inside : Reader Value
inside t = option_and_then (λ v. option_map (λ c. (v.0, c.1)) (close_bracket v.1)) (value t)

-- brackets: their opening, their content and their closing
close_shape : (v : Value × List ℕ) (o : Option (ℕ × List ℕ))
    → let pair : ℕ × List ℕ → (Value × ℕ) × List ℕ = λ b. ((v.0, b.0), b.1) in
    let keep : (Value × ℕ) × List ℕ → Value × List ℕ = λ a. (a.0.0, a.1) in
    let following : ℕ × List ℕ → Value × List ℕ = λ c. (v.0, c.1) in
    option_map keep (option_map pair o) ≡ option_map following o
close_shape v (Some c) = refl
close_shape v None = refl

inside_shape : (w : List ℕ) (o : Option (Value × List ℕ))
    → let pair : Value × List ℕ → (List ℕ × Value) × List ℕ = λ b. ((w, b.0), b.1) in
    let second : (List ℕ × Value) × List ℕ → Value × List ℕ = λ a. (a.0.1, a.1) in
    let close : Value × List ℕ → Option ((Value × ℕ) × List ℕ) = λ a. option_map (λ b. ((a.0, b.0), b.1)) (close_bracket a.1) in
    let keep : (Value × ℕ) × List ℕ → Value × List ℕ = λ a. (a.0.0, a.1) in
    let following : Value × List ℕ → Option (Value × List ℕ) = λ v. option_map (λ c. (v.0, c.1)) (close_bracket v.1) in
    option_map keep (option_and_then close (option_map second (option_map pair o))) ≡ option_and_then following o
inside_shape w (Some v) = close_shape v (close_bracket v.1)
inside_shape w None = refl

bracketed_is : (s : List ℕ) (x : List ℕ × List ℕ) → open_bracket s ≡ Some x → bracketed_over value s ≡ inside x.1
bracketed_is s x e =
    let first : List ℕ × List ℕ → Option ((List ℕ × Value) × List ℕ) = λ a. option_map (λ b. ((a.0, b.0), b.1)) (value a.1) in
    let second : (List ℕ × Value) × List ℕ → Value × List ℕ = λ a. (a.0.1, a.1) in
    let close : Value × List ℕ → Option ((Value × ℕ) × List ℕ) = λ a. option_map (λ b. ((a.0, b.0), b.1)) (close_bracket a.1) in
    let keep : (Value × ℕ) × List ℕ → Value × List ℕ = λ a. (a.0.0, a.1) in
    ap (λ o. option_map keep (option_and_then close (option_map second (option_and_then first o)))) e ∙ inside_shape x.0 (value x.1)

bracketed_none : (s : List ℕ) → open_bracket s ≡ None → bracketed_over value s ≡ None
bracketed_none s e =
    let first : List ℕ × List ℕ → Option ((List ℕ × Value) × List ℕ) = λ a. option_map (λ b. ((a.0, b.0), b.1)) (value a.1) in
    let second : (List ℕ × Value) × List ℕ → Value × List ℕ = λ a. (a.0.1, a.1) in
    let close : Value × List ℕ → Option ((Value × ℕ) × List ℕ) = λ a. option_map (λ b. ((a.0, b.0), b.1)) (close_bracket a.1) in
    let keep : (Value × ℕ) × List ℕ → Value × List ℕ = λ a. (a.0.0, a.1) in
    ap (λ o. option_map keep (option_and_then close (option_map second (option_and_then first o)))) e

-- what the brackets' index leaves to be scanned
start_shape : (s : List ℕ) (o : Option (Value × List ℕ))
    → let make : Placed Value × List ℕ → Index × List ℕ = λ a. (placed_bracket a.0, a.1) in
    let following : Value × List ℕ → Option (Value × List ℕ) = λ v. option_map (λ c. (v.0, c.1)) (close_bracket v.1) in
    let more_of : Value × List ℕ → Option Scanned = λ v. adds (fault_within 1 v.0) (closing (resume 0) v.1) in
    scan (index_fault 0) (option_map make (option_map (placed s) (option_and_then following o))) ≡ option_and_then more_of o
unfolding resume
start_shape s (Some v) = go (close_bracket v.1)
  where
    go : (o : Option (ℕ × List ℕ))
        → let make : Placed Value × List ℕ → Index × List ℕ = λ a. (placed_bracket a.0, a.1) in
        let following : ℕ × List ℕ → Value × List ℕ = λ c. (v.0, c.1) in
        let next : ℕ × List ℕ → Option Scanned = λ a. resume 0 a.1 in
        scan (index_fault 0) (option_map make (option_map (placed s) (option_map following o))) ≡ adds (fault_within 1 v.0)
        (option_and_then next o)
    go (Some c) = let w : Option Fault → Option Scanned = λ y. Some (y, c.1) in ap w (sym (or_none (fault_within 1 v.0)))
    go None = refl
start_shape s None = refl

pub scan_open : (s : List ℕ) (x : List ℕ × List ℕ) → open_bracket s ≡ Some x → scan (index_fault 0) (bracket_index s) ≡ starts 1 x.1
unfolding starts
scan_open s x e =
    let make : Placed Value × List ℕ → Index × List ℕ = λ a. (placed_bracket a.0, a.1) in
    ap (λ o. scan (index_fault 0) (option_map make (option_map (placed s) o))) (bracketed_is s x e) ∙ start_shape s (value x.1)

pub scan_none : (s : List ℕ) → open_bracket s ≡ None → scan (index_fault 0) (bracket_index s) ≡ None
scan_none s e =
    let make : Placed Value × List ℕ → Index × List ℕ = λ a. (placed_bracket a.0, a.1) in
    ap (λ o. scan (index_fault 0) (option_map make (option_map (placed s) o))) (bracketed_none s e)

-- a literal is inside the brackets
pub starts_literal : (depth : ℕ) (s : List ℕ) (x : Literal × List ℕ) → literal s ≡ Some x
    → starts (suc depth) s ≡ adds (literal_fault s x.0) (closing (resume depth) x.1)
unfolding starts
starts_literal depth s x e =
    let make : Placed Literal × List ℕ → Value × List ℕ = λ a. (placed_literal a.0, a.1) in
    let next : Value × List ℕ → Option Scanned = λ v. adds (fault_within (suc depth) v.0) (closing (resume depth) v.1) in
    ap (option_and_then next) (value_reads s)
    ∙ ap (λ o. option_and_then next (option_or (option_map make (option_map (placed s) o)) (variable_over value s))) e

-- a variable is inside the brackets
variable_shape : (depth : ℕ) (s : List ℕ) (n : List ℕ × List ℕ) (o : Option (List Index × List ℕ))
    → let pair : List Index × List ℕ → (List ℕ × List Index) × List ℕ = λ b. ((n.0, b.0), b.1) in
    let make : Placed (List ℕ × List Index) × List ℕ → Value × List ℕ = λ a. (placed_variable a.0, a.1) in
    let next : Value × List ℕ → Option Scanned = λ v. adds (fault_within (suc depth) v.0) (closing (resume depth) v.1) in
    let more_of : List Index × List ℕ → Option Scanned = λ b. adds (indexes_fault (suc depth) (gather b.0)) (closing (resume depth) b.1) in
    option_and_then next (option_map make (option_map (placed s) (option_map pair o))) ≡ option_and_then more_of o
variable_shape depth s n (Some b) = refl
variable_shape depth s n None = refl

pub starts_name : (depth : ℕ) (s : List ℕ) (n : List ℕ × List ℕ) → literal s ≡ None → name s ≡ Some n
    → starts (suc depth) s ≡ resume (suc depth) n.1
unfolding starts resume
starts_name depth s n none e =
    let make : Placed Literal × List ℕ → Value × List ℕ = λ a. (placed_literal a.0, a.1) in
    let make_variable : Placed (List ℕ × List Index) × List ℕ → Value × List ℕ = λ a. (placed_variable a.0, a.1) in
    let and_indexes : List ℕ × List ℕ → Option ((List ℕ × List Index) × List ℕ) = λ a. option_map (λ b. ((a.0, b.0), b.1)) (indexes a.1) in
    let next : Value × List ℕ → Option Scanned = λ v. adds (fault_within (suc depth) v.0) (closing (resume depth) v.1) in
    ap (option_and_then next) (value_reads s)
    ∙ ap (λ o. option_and_then next (option_or (option_map make (option_map (placed s) o)) (variable_over value s))) none
    ∙ ap (λ o. option_and_then next (option_map make_variable (option_map (placed s) (option_and_then and_indexes o)))) e
    ∙ variable_shape depth s n (indexes n.1)

pub starts_none : (depth : ℕ) (s : List ℕ) → literal s ≡ None → name s ≡ None → starts (suc depth) s ≡ None
unfolding starts
starts_none depth s none e =
    let make : Placed Literal × List ℕ → Value × List ℕ = λ a. (placed_literal a.0, a.1) in
    let make_variable : Placed (List ℕ × List Index) × List ℕ → Value × List ℕ = λ a. (placed_variable a.0, a.1) in
    let and_indexes : List ℕ × List ℕ → Option ((List ℕ × List Index) × List ℕ) = λ a. option_map (λ b. ((a.0, b.0), b.1)) (indexes a.1) in
    let next : Value × List ℕ → Option Scanned = λ v. adds (fault_within (suc depth) v.0) (closing (resume depth) v.1) in
    ap (option_and_then next) (value_reads s)
    ∙ ap (λ o. option_and_then next (option_or (option_map make (option_map (placed s) o)) (variable_over value s))) none
    ∙ ap (λ o. option_and_then next (option_map make_variable (option_map (placed s) (option_and_then and_indexes o)))) e

-- indexes after a name, inside the brackets: a named one
named_shape : (depth : ℕ) (n : List ℕ) (o : Option (List Index × List ℕ))
    → let cons : List Index × List ℕ → List Index × List ℕ = λ b. (named_index n ∷ b.0, b.1) in
    let more_of : List Index × List ℕ → Option Scanned = λ b. adds (indexes_fault (suc depth) (gather b.0)) (closing (resume depth) b.1) in
    option_and_then more_of (option_map cons o) ≡ option_and_then more_of o
named_shape depth n (Some b) = refl
named_shape depth n None = refl

index_named : (s : List ℕ) (n : List ℕ × List ℕ) → named s ≡ Some n → index s ≡ Some (named_index n.0, n.1)
index_named s n e =
    let make : List ℕ × List ℕ → Index × List ℕ = λ a. (named_index a.0, a.1) in
    ap (λ o. option_or (option_map make o) (bracket_index s)) e

pub resume_named : (depth : ℕ) (s : List ℕ) (n : List ℕ × List ℕ) → named s ≡ Some n → resume (suc depth) s ≡ resume (suc depth) n.1
unfolding resume
resume_named depth s n e =
    let more_of : List Index × List ℕ → Option Scanned = λ b. adds (indexes_fault (suc depth) (gather b.0)) (closing (resume depth) b.1) in
    ap (option_and_then more_of) (repeated_more (exact-index exact-value) (shrinks-index exact-value) s (named_index n.0, n.1)
    (index_named s n e))
    ∙ named_shape depth n.0 (indexes n.1)

-- none: a close bracket must follow
index_none : (s : List ℕ) → named s ≡ None → bracketed_over value s ≡ None → index s ≡ None
index_none s none e =
    let make : Placed Value × List ℕ → Index × List ℕ = λ a. (placed_bracket a.0, a.1) in
    let make_named : List ℕ × List ℕ → Index × List ℕ = λ a. (named_index a.0, a.1) in
    ap (λ o. option_or (option_map make_named o) (bracket_index s)) none ∙ ap (λ o. option_map make (option_map (placed s) o)) e

resume_end : (depth : ℕ) (s : List ℕ) → index s ≡ None → resume (suc depth) s ≡ closing (resume depth) s
unfolding resume
resume_end depth s none =
    let more_of : List Index × List ℕ → Option Scanned = λ b. adds (indexes_fault (suc depth) (gather b.0)) (closing (resume depth) b.1) in
    ap (option_and_then more_of) (repeated_end index s none) ∙ adds_none (closing (resume depth) s)

pub resume_close : (depth : ℕ) (s : List ℕ) → named s ≡ None → open_bracket s ≡ None → resume (suc depth) s ≡ closing (resume depth) s
resume_close depth s none e = resume_end depth s (index_none s none (bracketed_none s e))

-- a bracket that opens is not one that closes
open_shape : (t : Bool) (b : ℕ) (s : List ℕ) (x : List ℕ × List ℕ)
    → let y : Option (ℕ × List ℕ) = Some (b, s) in
    let k : ℕ × List ℕ → Option ((ℕ × List ℕ) × List ℕ) = λ a. option_map (λ b. ((a.0, b.0), b.1)) (white a.1) in
    let h : (ℕ × List ℕ) × List ℕ → List ℕ × List ℕ = λ a. (a.0.1, a.1) in
    option_map h (option_and_then k (cond t y None)) ≡ Some x → t ≡ true
open_shape true b s x e = refl
open_shape false b s x e = absurd (none-some x e)

close_none : (s : List ℕ) → close_bracket (91 ∷ s) ≡ None
unfolding close_bracket white
close_none s = refl

open_not_close : (s : List ℕ) (x : List ℕ × List ℕ) → open_bracket s ≡ Some x → close_bracket s ≡ None
unfolding open_bracket
open_not_close [] x e = absurd (none-some x e)
open_not_close (b ∷ s) x e =
    let same : b ≡ 91 = eqb-true b 91 (open_shape (b == 91) b s x e) in
    ap (λ c. close_bracket (c ∷ s)) same ∙ close_none s

-- an open bracket: one more is open where a value begins
opened_shape : (depth : ℕ) (s : List ℕ) (v : Value × List ℕ) (c : ℕ × List ℕ) (o : Option (List Index × List ℕ))
    → let cons : List Index × List ℕ → List Index × List ℕ = λ b. (bracketed_index s c.1 v.0 ∷ b.0, b.1) in
    let more_of : List Index × List ℕ → Option Scanned = λ b. adds (indexes_fault (suc depth) (gather b.0)) (closing (resume depth) b.1) in
    option_and_then more_of (option_map cons o) ≡ adds (deep_fault (suc depth) s)
    (adds (fault_within (suc (suc depth)) v.0) (option_and_then more_of o))
opened_shape depth s v c (Some b) =
    let deep = deep_fault (suc depth) s in
    let inner = fault_within (suc (suc depth)) v.0 in
    sym (adds_adds deep inner (adds (indexes_fault (suc depth) (gather b.0)) (closing (resume depth) b.1))
    ∙ adds_adds (option_or deep inner) (indexes_fault (suc depth) (gather b.0)) (closing (resume depth) b.1))
opened_shape depth s v c None = refl

index_opened : (s : List ℕ) (v : Value × List ℕ) (c : ℕ × List ℕ) → named s ≡ None → bracketed_over value s ≡ Some (v.0, c.1)
    → index s ≡ Some (bracketed_index s c.1 v.0, c.1)
index_opened s v c none e =
    let make : Placed Value × List ℕ → Index × List ℕ = λ a. (placed_bracket a.0, a.1) in
    let make_named : List ℕ × List ℕ → Index × List ℕ = λ a. (named_index a.0, a.1) in
    ap (λ o. option_or (option_map make_named o) (bracket_index s)) none ∙ ap (λ o. option_map make (option_map (placed s) o)) e

pub resume_open : (depth : ℕ) (s : List ℕ) (x : List ℕ × List ℕ) → named s ≡ None → open_bracket s ≡ Some x
    → resume (suc depth) s ≡ adds (deep_fault (suc depth) s) (starts (suc (suc depth)) x.1)
unfolding starts resume
resume_open depth s x none e = by_value (value x.1) refl
  where
    more_of : List Index × List ℕ → Option Scanned
    more_of b = adds (indexes_fault (suc depth) (gather b.0)) (closing (resume depth) b.1)

    next : Value × List ℕ → Option Scanned
    next v = adds (fault_within (suc (suc depth)) v.0) (closing (resume (suc depth)) v.1)

    no_close : closing (resume depth) s ≡ None
    no_close = let go : ℕ × List ℕ → Option Scanned = λ a. resume depth a.1 in ap (option_and_then go) (open_not_close s x e)

    ended : bracketed_over value s ≡ None → resume (suc depth) s ≡ None
    ended h = resume_end depth s (index_none s none h) ∙ no_close

    following : Value × List ℕ → Option (Value × List ℕ)
    following v = option_map (λ c. (v.0, c.1)) (close_bracket v.1)

    found : (v : Value × List ℕ) → value x.1 ≡ Some v → bracketed_over value s ≡ option_map (λ c. (v.0, c.1)) (close_bracket v.1)
    found v h = bracketed_is s x e ∙ ap (option_and_then following) h

    deep : Option Scanned → Option Scanned
    deep = adds (deep_fault (suc depth) s)

    by_close : (v : Value × List ℕ) → value x.1 ≡ Some v → (o : Option (ℕ × List ℕ)) → close_bracket v.1 ≡ o
        → resume (suc depth) s ≡ deep (adds (fault_within (suc (suc depth)) v.0) (closing (resume (suc depth)) v.1))
    by_close v h None k =
        let keep : ℕ × List ℕ → Value × List ℕ = λ c. (v.0, c.1) in
        let go : ℕ × List ℕ → Option Scanned = λ a. resume (suc depth) a.1 in
        ended (found v h ∙ ap (option_map keep) k)
        ∙ sym (ap (λ o. deep (adds (fault_within (suc (suc depth)) v.0) (option_and_then go o))) k)
    by_close v h (Some c) k =
        let keep : ℕ × List ℕ → Value × List ℕ = λ c. (v.0, c.1) in
        let go : ℕ × List ℕ → Option Scanned = λ a. resume (suc depth) a.1 in
        let here = index_opened s v c none (found v h ∙ ap (option_map keep) k) in
        ap (option_and_then more_of) (repeated_more (exact-index exact-value) (shrinks-index exact-value) s
        (bracketed_index s c.1 v.0, c.1) here)
        ∙ opened_shape depth s v c (indexes c.1)
        ∙ sym (ap (λ o. deep (adds (fault_within (suc (suc depth)) v.0) (option_and_then go o))) k)

    by_value : (o : Option (Value × List ℕ)) → value x.1 ≡ o → resume (suc depth) s ≡ adds (deep_fault (suc depth) s)
        (starts (suc (suc depth)) x.1)
    by_value None h = ended (bracketed_is s x e ∙ ap (option_and_then following) h) ∙ sym (ap (λ o. deep (option_and_then next o)) h)
    by_value (Some v) h = by_close v h (close_bracket v.1) refl ∙ sym (ap (λ o. deep (option_and_then next o)) h)

-- a close bracket: one fewer is open
pub closing_found : (next : List ℕ → Option Scanned) (s : List ℕ) (a : ℕ × List ℕ) → close_bracket s ≡ Some a → closing next s ≡ next a.1
closing_found next s a e = let go : ℕ × List ℕ → Option Scanned = λ a. next a.1 in ap (option_and_then go) e

pub closing_none : (next : List ℕ → Option Scanned) (s : List ℕ) → close_bracket s ≡ None → closing next s ≡ None
closing_none next s e = let go : ℕ × List ℕ → Option Scanned = λ a. next a.1 in ap (option_and_then go) e

pub resume_zero : (s : List ℕ) → resume 0 s ≡ Some (None, s)
unfolding resume
resume_zero s = refl

-- what a call left is what the reader left
pub left_some : {A : Type 0} (o : Option (A × List ℕ)) (rest : List ℕ) → Some rest ≡ option_map (λ p. p.1) o → (x : A × List ℕ)
    × (o ≡ Some x) × (x.1 ≡ rest)
left_some (Some x) rest e = (x, refl, sym (same_Some _ _ e))
left_some None rest e = absurd (none-some _ (sym e))

pub left_none : {A : Type 0} (o : Option (A × List ℕ)) → None ≡ option_map (λ p. p.1) o → o ≡ None
left_none (Some x) e = absurd (none-some _ e)
left_none None e = refl

pub faults_or : (a b : Option CodeFault) → faults_of (option_or a b) ≡ option_or (faults_of a) (faults_of b)
faults_or (Some x) b = refl
faults_or None b = refl

-- the turns of the matcher, each by what it found
pub turn_literal : (f : Option Fault) (d : ℕ) (s rest : List ℕ) (l : Literal) → 0 < d → Some (l, rest) ≡ literal s
    → adds f (starts d s) ≡ adds (option_or f (literal_fault s l)) (closing (resume (pred d)) rest)
turn_literal f zero s rest l h e = absurd (omega arith)
turn_literal f (suc d) s rest l h e = ap (adds f) (starts_literal d s (l, rest) (sym e))
    ∙ adds_adds f (literal_fault s l) (closing (resume d) rest)

pub turn_name : (f : Option Fault) (d : ℕ) (s rest n : List ℕ) → 0 < d → None ≡ literal s → Some (n, rest) ≡ name s
    → adds f (starts d s) ≡ adds f (resume d rest)
turn_name f zero s rest n h none e = absurd (omega arith)
turn_name f (suc d) s rest n h none e = ap (adds f) (starts_name d s (n, rest) (sym none) (sym e))

pub turn_no_value : (f : Option Fault) (d : ℕ) (s : List ℕ) → 0 < d → None ≡ literal s → None ≡ name s → adds f (starts d s) ≡ None
turn_no_value f zero s h none e = absurd (omega arith)
turn_no_value f (suc d) s h none e = ap (adds f) (starts_none d s (sym none) (sym e))

pub turn_named : (f : Option Fault) (d : ℕ) (s rest : List ℕ) → 0 < d → Some rest ≡ option_map (λ p. p.1) (named s)
    → adds f (resume d s) ≡ adds f (resume d rest)
turn_named f zero s rest h e = absurd (omega arith)
turn_named f (suc d) s rest h e =
    let x = left_some (named s) rest e in
    ap (adds f) (resume_named d s x.0 x.1 ∙ ap (resume (suc d)) x.2)

pub turn_open : (f : Option Fault) (d : ℕ) (s rest : List ℕ) → 0 < d → None ≡ option_map (λ p. p.1) (named s)
    → Some rest ≡ option_map (λ p. p.1) (open_bracket s) → adds f (resume d s) ≡ adds (option_or f (deep_fault d s)) (starts (d + 1) rest)
turn_open f zero s rest h none e = absurd (omega arith)
turn_open f (suc d) s rest h none e =
    let x = left_some (open_bracket s) rest e in
    let more_open : suc (suc d) ≡ suc d + 1 = omega arith in
    ap (adds f) (resume_open d s x.0 (left_none (named s) none) x.1) ∙ adds_adds f (deep_fault (suc d) s) (starts (suc (suc d)) x.0.1)
    ∙ ap₂ (λ n t. adds (option_or f (deep_fault (suc d) s)) (starts n t)) more_open x.2

pub turn_to_close : (f : Option Fault) (d : ℕ) (s : List ℕ) → 0 < d → None ≡ option_map (λ p. p.1) (named s)
    → None ≡ option_map (λ p. p.1) (open_bracket s) → adds f (resume d s) ≡ adds f (closing (resume (pred d)) s)
turn_to_close f zero s h none e = absurd (omega arith)
turn_to_close f (suc d) s h none e = ap (adds f) (resume_close d s (left_none (named s) none) (left_none (open_bracket s) e))

-- where the matcher begins and where it ends
pub bracket_opens : (s rest : List ℕ) → Some rest ≡ option_map (λ p. p.1) (open_bracket s)
    → scan (index_fault 0) (bracket_index s) ≡ adds None (starts 1 rest)
bracket_opens s rest e = let x = left_some (open_bracket s) rest e in scan_open s x.0 x.1 ∙ ap (starts 1) x.2
    ∙ sym (adds_none (starts 1 rest))

pub all_closed : (f : Option Fault) (d : ℕ) (s : List ℕ) → d ≡ 0 → adds f (resume d s) ≡ Some (f, s)
all_closed f d s e =
    let w : Option Fault → Option Scanned = λ y. Some (y, s) in
    ap (λ n. adds f (resume n s)) e ∙ ap (adds f) (resume_zero s) ∙ ap w (or_none f)

-- what the matcher still has to find, by what it awaits
pub going_at : (o : Open) (a : Await) → o.awaits ≡ a → going o ≡ adds (faults_of o.fault) (awaited a o.depth o.rest.now)
going_at o a e = ap (λ x. adds (faults_of o.fault) (awaited x o.depth o.rest.now)) e

pub fault_added : (a b r : Option CodeFault) (g : Option Fault) → r ≡ option_or a b → faults_of b ≡ g
    → option_or (faults_of a) g ≡ faults_of r
fault_added a b r g e f = sym (ap faults_of e ∙ faults_or a b ∙ ap (option_or (faults_of a)) f)

pub match_none : {X : Type 0} (o : Option X) (P : Type 0) (Q : X → Type 0) → o ≡ None → P → MatchOption o P Q
match_none {X} o P Q e h = subst (λ (x : Option X). MatchOption x P Q) (sym e) h

pub adds_found : (f : Option Fault) (s : List ℕ) → adds f (Some (None, s)) ≡ Some (f, s)
adds_found f s = let w : Option Fault → Option Scanned = λ y. Some (y, s) in ap w (or_none f)
