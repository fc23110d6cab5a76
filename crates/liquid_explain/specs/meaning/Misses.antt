-- How the rules of the grammar fail: from a place in a text they come to another place, where a part doesn't begin.
--
-- As in the grammar, a place is the rest of the text there. For each rule of the grammar there is a relation of this kind,
-- which is made of the rule's own pieces.
use Rattle.std.specs.Prelude.{◌≡◌, ℕ, List}
use Rattle.liquid_grammar.specs.meaning.Rules.{Rule, Begins}
use Rattle.liquid_explain.specs.declared.part.Part.{Part}

-- from a place a rule comes to another, and misses a part there
abbrev pub Misses : Type 1
Misses = List ℕ → List ℕ → Part → Type 0

-- R is to begin here, and doesn't
pub record Wants {A : Type 0} (R : Rule A) (wanted : Part) (s place : List ℕ) (part : Part) : Type 0 where
  pub here : place ≡ s
  pub is : part ≡ wanted
  pub none : ¬ (Begins R s)

-- M, after a match of R
pub record After {A : Type 0} (R : Rule A) (M : Misses) (s place : List ℕ) (part : Part) : Type 0 where
  pub middle : List ℕ
  pub shape : A
  pub before : R s middle shape
  pub misses : M middle place part

-- M or N
pub data Either (M N : Misses) (s place : List ℕ) (part : Part) : Type 0 where
  this : M s place part → Either M N s place part
  that : N s place part → Either M N s place part

-- M, after any number of matches of R
pub data Along {A : Type 0} (R : Rule A) (M : Misses) : List ℕ → List ℕ → Part → Type 0 where
  here : {s place : List ℕ} {part : Part} → M s place part → Along R M s place part
  further : {s middle place : List ℕ} {part : Part} {shape : A} → R s middle shape → Along R M middle place part
      → Along R M s place part
