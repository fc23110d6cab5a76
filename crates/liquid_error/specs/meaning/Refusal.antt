-- What an error says: a refusal, as plain data.
use Rattle.std.specs.Prelude.{ℕ, List, [], ◌∷◌, ◌++◌, Option, None, Some, Result, Ok, Err, codes}
use Rattle.std.specs.Option.{option_or}
use Rattle.std.specs.Fmt.{decimal}
use Rattle.liquid_error.specs.declared.place.Place.{Place}

-- a context: a key and its value
abbrev pub Entry : Type 0
Entry = List ℕ × List ℕ

-- a trace: its text, and the contexts that were added to it, oldest first
pub record Note : Type 0 where
  pub text : List ℕ
  pub contexts : List Entry

-- what caused a refusal: nothing, the text of some error, an out-of-memory error, or another refusal, given by its
-- message, contexts, traces and place, and by what caused it
pub data Reason : Type 0 where
  no_reason : Reason
  by_text : List ℕ → Reason
  by_memory : Reason
  by_refusal : List ℕ → List Entry → List Note → Option Place → Reason → Reason

-- a refusal: its message with the contexts that were added to it, its traces, oldest first, the place in a text that it
-- is about, and what caused it
pub record Refusal : Type 0 where
  pub message : List ℕ
  pub contexts : List Entry
  pub traces : List Note
  pub place : Option Place
  pub cause : Reason

-- a message alone
abbrev pub plain : List ℕ → Refusal
plain message = record { message = message; contexts = []; traces = []; place = None; cause = no_reason }

-- ` (line L, column C)`
abbrev pub place_text : Place → List ℕ
place_text p = codes " (line " ++ (decimal p.line ++ (codes ", column " ++ (decimal p.column ++ codes ")")))

-- a message about a place, which is also written after the message
abbrev pub located : List ℕ → Place → Refusal
located message p = record (plain (message ++ place_text p)) { place = Some p }

-- the refusal with this place if it has none
abbrev pub or_placed : Place → Refusal → Refusal
or_placed place r = record r { place = option_or r.place (Some place) }

-- the newest trace, which is the last, gets the context
abbrev pub note_newest : Entry → List Note → List Note
note_newest entry [] = []
note_newest entry (n ∷ []) = record n { contexts = n.contexts ++ entry ∷ [] } ∷ []
note_newest entry (n ∷ m ∷ ns) = n ∷ note_newest entry (m ∷ ns)

-- the message gets the context only if there is no trace
abbrev pub note_message : Entry → List Note → List Entry → List Entry
note_message entry [] contexts = contexts ++ entry ∷ []
note_message entry (n ∷ ns) contexts = contexts

-- a context is added to the newest trace, or to the message if there is none
abbrev pub with_context : List ℕ → List ℕ → Refusal → Refusal
with_context key value r =
    record r { contexts = note_message (key, value) r.traces r.contexts; traces = note_newest (key, value) r.traces }

-- a new trace without contexts
abbrev pub with_trace : List ℕ → Refusal → Refusal
with_trace text r = record r { traces = r.traces ++ record { text = text; contexts = [] } ∷ [] }

-- the same refusal with this cause, in place of any other
abbrev pub with_cause : Reason → Refusal → Refusal
with_cause reason r = record r { cause = reason }

-- a refusal as a cause, or out of memory if there is none
abbrev pub reason_of_told : Option Refusal → Reason
reason_of_told None = by_memory
reason_of_told (Some r) = by_refusal r.message r.contexts r.traces r.place r.cause

-- what caused the refusal, or no reason if there is no refusal
abbrev pub cause_of_told : Option Refusal → Reason
cause_of_told None = no_reason
cause_of_told (Some r) = r.cause

-- a new message, with the refusal as its cause
abbrev pub chained : List ℕ → Refusal → Refusal
chained message r = with_cause (reason_of_told (Some r)) (plain message)

-- one result after another: a value is passed on, and the first refusal is the result
abbrev pub ok_then : {A B : Type 0} → Result A Refusal → (A → Result B Refusal) → Result B Refusal
ok_then (Ok x) next = next x
ok_then (Err refusal) next = Err refusal
