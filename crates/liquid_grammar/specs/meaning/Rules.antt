-- Rules of a grammar, and how rules are combined.
--
-- A place in a text is the rest of the text there. So a rule relates a text, the rest that its match leaves, and the
-- shape of what was matched.
use Rattle.std.specs.Prelude.{◌≡◌, ℕ, ◌==◌, Bool, true, List, [], ◌∷◌, ◌++◌, Option, Some, None}

infixl 20 ◌▷◌
infixl 20 ◌◁◌
abbrev pub Rule : Type 0 → Type 1
Rule A = List ℕ → List ℕ → A → Type 0

-- some match of the rule begins here
pub record Begins {A : Type 0} (R : Rule A) (s : List ℕ) : Type 0 where
  pub rest : List ℕ
  pub shape : A
  pub match : R s rest shape

-- one byte that passes the test
pub record One (p : ℕ → Bool) (s rest : List ℕ) (byte : ℕ) : Type 0 where
  pub front : s ≡ byte ∷ rest
  pub passes : p byte ≡ true

-- R, and S after it
pub record Then {A B : Type 0} (R : Rule A) (S : Rule B) (s rest : List ℕ) (shape : A × B) : Type 0 where
  pub middle : List ℕ
  pub before : R s middle shape.0
  pub after : S middle rest shape.1

-- R, or S if no match of R begins here
pub data Else {A : Type 0} (R S : Rule A) (s rest : List ℕ) (shape : A) : Type 0 where
  here : R s rest shape → Else R S s rest shape
  instead : ¬ (Begins R s) → S s rest shape → Else R S s rest shape

-- R as often as a match of it begins
pub data Repeated {A : Type 0} (R : Rule A) : List ℕ → List ℕ → List A → Type 0 where
  ends : {s : List ℕ} → ¬ (Begins R s) → Repeated R s s []
  more : {s middle rest : List ℕ} {shape : A} {shapes : List A} → R s middle shape → Repeated R middle rest shapes
      → Repeated R s rest (shape ∷ shapes)

-- R, with what f makes of its shape
pub record Seen {A B : Type 0} (f : A → B) (R : Rule A) (s rest : List ℕ) (shape : B) : Type 0 where
  pub from : A
  pub match : R s rest from
  pub is : shape ≡ f from

-- R, if its shape passes the test
pub record Where {A : Type 0} (p : A → Bool) (R : Rule A) (s rest : List ℕ) (shape : A) : Type 0 where
  pub match : R s rest shape
  pub passes : p shape ≡ true

-- R, and its shape is the text that it took
pub record Text {A : Type 0} (R : Rule A) (s rest text : List ℕ) : Type 0 where
  pub shape : A
  pub match : R s rest shape
  pub front : s ≡ text ++ rest

-- nothing, if a match of R begins here
pub record Ahead {A : Type 0} (R : Rule A) (s rest : List ℕ) (shape : Unit {0}) : Type 0 where
  pub stays : rest ≡ s
  pub begins : Begins R s

-- nothing, if no match of R begins here
pub record Not {A : Type 0} (R : Rule A) (s rest : List ℕ) (shape : Unit {0}) : Type 0 where
  pub stays : rest ≡ s
  pub none : ¬ (Begins R s)

-- nothing, with this shape
pub record Nothing {A : Type 0} (a : A) (s rest : List ℕ) (shape : A) : Type 0 where
  pub stays : rest ≡ s
  pub is : shape ≡ a

-- a shape with the place where its match begins and the place after it
pub record Placed (A : Type 0) : Type 0 where
  pub place : List ℕ
  pub following : List ℕ
  pub what : A

-- R, with the places of its match
pub record At {A : Type 0} (R : Rule A) (s rest : List ℕ) (shape : Placed A) : Type 0 where
  pub begins : shape.place ≡ s
  pub ends : shape.following ≡ rest
  pub match : R s rest shape.what

-- R, if a match of it begins here
abbrev pub Optional : {A : Type 0} → Rule A → Rule (Option A)
Optional R = Else (Seen Some R) (Nothing None)

-- this byte
abbrev pub Byte : ℕ → Rule ℕ
Byte b = One (λ c. c == b)

-- R and S, with the shape of S
abbrev pub ◌▷◌ : {A B : Type 0} → Rule A → Rule B → Rule B
R ▷ S = Seen (λ p. p.1) (Then R S)

-- R and S, with the shape of R
abbrev pub ◌◁◌ : {A B : Type 0} → Rule A → Rule B → Rule A
R ◁ S = Seen (λ p. p.0) (Then R S)
