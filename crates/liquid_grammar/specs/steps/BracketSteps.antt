-- Nested brackets, matched with a count of those that are open. No public clause cites these definitions.
use Rattle.std.specs.Prelude.{ℕ, zero, suc, pred, List, Option, Some, None, option_map, option_and_then}
use Rattle.std.specs.Option.{option_or}
use Rattle.liquid_grammar.specs.declared.bracket.Await.{Await}
use Rattle.liquid_grammar.specs.declared.bracket.Await.TheVariants.{Value, Index, Close}
use Rattle.liquid_grammar.specs.declared.bracket.Open.{Open}
use Rattle.liquid_grammar.specs.meaning.Values as shape
use Rattle.liquid_grammar.specs.meaning.Values.{gather, placed_bracket}
use Rattle.liquid_grammar.specs.meaning.Faults.{Fault, fault_within, indexes_fault}
use Rattle.liquid_grammar.specs.meaning.Meanings.{Scanned, faults_of}
use Rattle.liquid_grammar.specs.steps.Steps.{Reader, seen}
use Rattle.liquid_grammar.specs.steps.TokenSteps.{at, repeated, value, index_over, bracketed_over, close_bracket}

-- with a fault before what was scanned
abbrev pub adds : Option Fault → Option Scanned → Option Scanned
adds fault found = option_map (λ c. (option_or fault c.0, c.1)) found

abbrev pub index : Reader shape.Index
index = index_over value

abbrev pub indexes : Reader (List shape.Index)
indexes = repeated index

-- a close bracket, and what `next` finds after it
abbrev pub closing : (List ℕ → Option Scanned) → List ℕ → Option Scanned
closing next s = option_and_then (λ a. next a.1) (close_bracket s)

-- what is still to be found after a name inside this many open brackets: its indexes, a close bracket, and what follows
-- it
unfoldable pub resume : ℕ → List ℕ → Option Scanned
resume zero s = Some (None, s)
resume (suc depth) s = option_and_then (λ b. adds (indexes_fault (suc depth) (gather b.0)) (closing (resume depth) b.1)) (indexes s)

-- the same, if a value begins inside the brackets
unfoldable pub starts : ℕ → List ℕ → Option Scanned
starts zero s = None
starts (suc depth) s = option_and_then (λ v. adds (fault_within (suc depth) v.0) (closing (resume depth) v.1)) (value s)

-- an index in brackets
abbrev pub bracket_index : Reader shape.Index
bracket_index = seen placed_bracket (at (bracketed_over value))

-- what is still to be found, by what is awaited
abbrev pub awaited : Await → ℕ → List ℕ → Option Scanned
awaited Value depth s = starts depth s
awaited Index depth s = resume depth s
awaited Close depth s = closing (resume (pred depth)) s

-- the same with the first fault so far
abbrev pub going : Open → Option Scanned
going o = adds (faults_of o.fault) (awaited o.awaits o.depth o.rest.now)

-- the next turn may take nothing where an index is awaited
abbrev pub rank : Await → ℕ
rank Value = 0
rank Index = 1
rank Close = 0
