-- How a call's result relates to a rule: it found the match that begins there, or none begins.
use Rattle.std.specs.Prelude.{◌≡◌, ℕ, ◌<◌, List, length, Option, MatchOption}
use Rattle.std.specs.Borrow.{Bor}
use Rattle.liquid_grammar.specs.declared.fault.Fault.{Fault as CodeFault}
use Rattle.liquid_grammar.specs.meaning.Rules.{Rule, Begins}
use Rattle.liquid_grammar.specs.meaning.Faults.{Fault}
use Rattle.liquid_grammar.specs.meaning.Meanings.{faults_of}

-- the result's shape, seen through `of`, is that of the match
abbrev pub Finds : {A C : Type 0} → Rule A → (C → A) → List ℕ → Option (C × Bor (List ℕ)) → Type 0
Finds R of s result = MatchOption result (¬ (Begins R s)) (λ p. R s p.1.now (of p.0))

-- some shape is matched, and this is its first fault
pub record HasMatch {A : Type 0} (R : Rule A) (fault : A → Option Fault) (s rest : List ℕ) (found : Option Fault) : Type 0 where
  pub shape : A
  pub match : R s rest shape
  pub is : found ≡ fault shape

-- the result is the first fault of the match, and the rest that the match leaves
abbrev pub Matches : {A : Type 0} → Rule A → (A → Option Fault) → List ℕ → Option (Option CodeFault × Bor (List ℕ)) → Type 0
Matches R fault s result = MatchOption result (¬ (Begins R s)) (λ p. HasMatch R fault s p.1.now (faults_of p.0))

-- at most one end and shape is related to a text
abbrev pub Single : {A : Type 0} → Rule A → Type 0
Single {A} R = (s r₁ r₂ : List ℕ) (a₁ a₂ : A) → R s r₁ a₁ → R s r₂ a₂ → ◌≡◌ {A = A × List ℕ} (a₁, r₁) (a₂, r₂)

-- each match takes at least one byte
abbrev pub Takes : {A : Type 0} → Rule A → Type 0
Takes {A} R = (s rest : List ℕ) (a : A) → R s rest a → length rest < length s
