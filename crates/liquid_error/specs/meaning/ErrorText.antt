-- What an error prints, line by line.
use Rattle.std.specs.Prelude.{ℕ, List, [], ◌∷◌, ◌++◌, Option, None, Some, codes}
use Rattle.std.specs.List.{flat_map}
use Rattle.liquid_error.specs.meaning.Refusal.{Entry, Note, Refusal, Reason, no_reason, by_text, by_memory, by_refusal, with_cause, plain}

-- a text and a line feed
abbrev pub line : List ℕ → List ℕ
line text = text ++ codes "\n"

-- `    key=value`
abbrev pub entry_line : Entry → List ℕ
entry_line e = line (codes "    " ++ (e.0 ++ (codes "=" ++ e.1)))

-- `  with:` and a line for each context, or nothing if there is none
abbrev pub contexts_text : List Entry → List ℕ
contexts_text [] = []
contexts_text (e ∷ es) = line (codes "  with:") ++ flat_map entry_line (e ∷ es)

-- `from: trace` and its contexts
abbrev pub note_text : Note → List ℕ
note_text n = line (codes "from: " ++ n.text) ++ contexts_text n.contexts

-- `liquid: message` and its contexts, and then the traces, oldest first
abbrev pub refusal_text : Refusal → List ℕ
refusal_text r = line (codes "liquid: " ++ r.message) ++ (contexts_text r.contexts ++ flat_map note_text r.traces)

-- an out-of-memory error has a text of its own
abbrev pub error_text : Option Refusal → List ℕ
error_text None = line (codes "liquid: out of memory")
error_text (Some r) = refusal_text r

-- a cause prints the text of its error; the text of an error that was kept as a text ends in a line feed
abbrev pub reason_text : Reason → List ℕ
reason_text no_reason = []
reason_text (by_text text) = line text
reason_text by_memory = error_text None
reason_text (by_refusal message contexts traces place reason) =
    refusal_text (record { message = message; contexts = contexts; traces = traces; place = place; cause = reason })

-- a new message, with the text of the refusal as its cause
abbrev pub lossy_chained : List ℕ → Refusal → Refusal
lossy_chained message r = with_cause (by_text (refusal_text r)) (plain message)
