-- What tags and blocks of two types take.
use Rattle.std.specs.Prelude.{ℕ, List, codes, Result, Ok, Err}
use Rattle.liquid_error.specs.meaning.Refusal.{Refusal, ok_then, plain}
use Rattle.liquid_parser.specs.meaning.Handed.{Tokens}
use Rattle.liquid_parser.specs.meaning.Lang.{Block, BlockMeaning, BlockNames, Body, Filters}
use Rattle.liquid_extend.specs.declared.beside.one_of.Beside.{Beside}
use Rattle.liquid_extend.specs.declared.beside.one_of.Beside.TheVariants.{Library, Own}

-- the error of a block that is handed the plan of another one
abbrev pub other_plan : Refusal
other_plan = plain (codes "Plan of another block")

-- a tag makes its own node
abbrev pub tag_beside : {L O F S T : Type 0} → (L → Filters F → Tokens → Result S Refusal) → (O → Filters F → Tokens → Result T Refusal)
    → Beside L O → Filters F → Tokens → Result (Beside S T) Refusal
tag_beside library own (Library tag) filters ts = ok_then (library tag filters ts) (λ node. Ok (Library node))
tag_beside library own (Own tag) filters ts = ok_then (own tag filters ts) (λ node. Ok (Own node))

-- a tag or a block has its own name
abbrev pub name_beside : {L O : Type 0} → (L → List ℕ) → (O → List ℕ) → Beside L O → List ℕ
name_beside library own (Library tag) = library tag
name_beside library own (Own tag) = own tag

abbrev pub names_beside : {L O : Type 0} → (L → BlockNames) → (O → BlockNames) → Beside L O → BlockNames
names_beside library own (Library block) = library block
names_beside library own (Own block) = own block

-- a plan as it is divided, and as it is finished, by the block that has begun it
abbrev pub divides_library : {F P Q S : Type 0} → BlockMeaning F P S → Beside P Q → List ℕ → Tokens → Result (Beside P Q) Refusal
divides_library m (Library plan) name ts = ok_then (m.divide plan name ts) (λ p. Ok (Library p))
divides_library m (Own plan) name ts = Err other_plan

abbrev pub divides_own : {F P Q T : Type 0} → BlockMeaning F Q T → Beside P Q → List ℕ → Tokens → Result (Beside P Q) Refusal
divides_own m (Library plan) name ts = Err other_plan
divides_own m (Own plan) name ts = ok_then (m.divide plan name ts) (λ p. Ok (Own p))

abbrev pub finishes_library : {F P Q S T : Type 0} → BlockMeaning F P S → Beside P Q → Body → Result (Beside S T) Refusal
finishes_library m (Library plan) body = ok_then (m.finish plan body) (λ node. Ok (Library node))
finishes_library m (Own plan) body = Err other_plan

abbrev pub finishes_own : {F P Q S T : Type 0} → BlockMeaning F Q T → Beside P Q → Body → Result (Beside S T) Refusal
finishes_own m (Library plan) body = Err other_plan
finishes_own m (Own plan) body = ok_then (m.finish plan body) (λ node. Ok (Own node))

-- a block reads what it would read alone
abbrev pub library_block : {F P Q S T : Type 0} → Block F P S → Block F (Beside P Q) (Beside S T)
library_block b = record {
  names = b.names;
  means = record {
    dividers = b.means.dividers;
    escapes = b.means.escapes;
    nests = b.means.nests;
    begin = λ filters ts. ok_then (b.means.begin filters ts) (λ plan. Ok (Library plan));
    divide = divides_library b.means;
    finish = finishes_library b.means;
  };
}

abbrev pub own_block : {F P Q S T : Type 0} → Block F Q T → Block F (Beside P Q) (Beside S T)
own_block b = record {
  names = b.names;
  means = record {
    dividers = b.means.dividers;
    escapes = b.means.escapes;
    nests = b.means.nests;
    begin = λ filters ts. ok_then (b.means.begin filters ts) (λ plan. Ok (Own plan));
    divide = divides_own b.means;
    finish = finishes_own b.means;
  };
}

abbrev pub block_beside : {L O F P Q S T : Type 0} → (L → Block F P S) → (O → Block F Q T) → Beside L O → Block F (Beside P Q) (Beside S T)
block_beside library own (Library block) = library_block (library block)
block_beside library own (Own block) = own_block (own block)
