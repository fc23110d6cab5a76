-- What nodes of two types render: each what it would render alone.
use Rattle.std.specs.Prelude.{ℕ, List, Ok}
use Rattle.liquid_error.specs.meaning.Refusal.{ok_then}
use Rattle.liquid_runtime.specs.meaning.View.{View}
use Rattle.liquid_plugins.specs.meaning.Turning.{answers}
use Rattle.liquid_plugins.specs.meaning.Turns.{TurnShape, end_turn, Answered, NodeMeaning}
use Rattle.liquid_extend.specs.declared.beside.one_of.Beside.{Beside}
use Rattle.liquid_extend.specs.declared.beside.one_of.Beside.TheVariants.{Library, Own}

-- a start and a turn, with a progress of another type
abbrev pub starts_as : {P R Reg : Type 0} → (P → R) → Answered P (Unit {0}) Reg → Answered R (Unit {0}) Reg
starts_as to t = record { answer = ok_then t.answer (λ p. Ok (to p)); progress = tt; written = t.written }

abbrev pub takes_as : {P R Reg : Type 0} → (P → R) → Answered TurnShape P Reg → Answered TurnShape R Reg
takes_as to t = record { answer = t.answer; progress = to t.progress; written = t.written }

module _ {A B P Q Reg : Type 0} (library : NodeMeaning A P Reg) (own : NodeMeaning B Q Reg) where
  abbrev pub starts : Beside A B → View Reg → Answered (Beside P Q) (Unit {0}) Reg
  starts (Library n) v = starts_as (λ p. Library p) (library.starts n v)
  starts (Own n) v = starts_as (λ p. Own p) (own.starts n v)

  abbrev pub count : Beside P Q → ℕ
  count (Library p) = library.count p
  count (Own p) = own.count p

  -- with a progress of the other type a node ends
  abbrev pub takes : Beside A B → Beside P Q → View Reg → Answered TurnShape (Beside P Q) Reg
  takes (Library n) (Library p) v = takes_as (λ q. Library q) (library.takes n p v)
  takes (Library n) (Own p) v = answers (Ok end_turn) (Own p) v
  takes (Own n) (Library p) v = answers (Ok end_turn) (Library p) v
  takes (Own n) (Own p) v = takes_as (λ q. Own q) (own.takes n p v)

  abbrev pub catches : Beside A B → Beside P Q → List ℕ → Beside P Q
  catches (Library n) (Library p) text = Library (library.catches n p text)
  catches (Library n) (Own p) text = Own p
  catches (Own n) (Library p) text = Library p
  catches (Own n) (Own p) text = Own (own.catches n p text)

  abbrev pub nodes_beside : NodeMeaning (Beside A B) (Beside P Q) Reg
  nodes_beside = record { starts = starts; count = count; takes = takes; catches = catches }
