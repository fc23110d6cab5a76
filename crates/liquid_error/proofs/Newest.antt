-- What adding a context does to a list of traces whose last one is given.
use Rattle.std.proofs.Common.{◌≡◌, List, [], ◌∷◌, ◌++◌, refl, ap, map}
use Rattle.std.proofs.lemmas.List.{map-append}
use Rattle.liquid_error.specs.declared.report.Trace.{Trace}
use Rattle.liquid_error.specs.meaning.Refusal.{Entry, Note, note_newest, note_message}
use Rattle.liquid_error.specs.meaning.Told.{note_of}

pub note_newest_append : (entry : Entry) (ns : List Note) (n : Note) → note_newest entry (ns ++ n ∷ []) ≡ ns
    ++ record n { contexts = n.contexts ++ entry ∷ [] } ∷ []
note_newest_append entry [] n = refl
note_newest_append entry (m ∷ []) n = refl
note_newest_append entry (m ∷ k ∷ ns) n = ap (λ (rest : List Note). m ∷ rest) (note_newest_append entry (k ∷ ns) n)

pub note_message_append : (entry : Entry) (ns : List Note) (n : Note) (contexts : List Entry)
    → note_message entry (ns ++ n ∷ []) contexts ≡ contexts
note_message_append entry [] n contexts = refl
note_message_append entry (m ∷ ns) n contexts = refl

-- the traces after the newest got a context
pub noted_newest : (entry : Entry) (front : List Trace) (old new : Trace) → note_of new ≡ record
    (note_of old) { contexts = (note_of old).contexts ++ entry ∷ [] } → note_newest entry (map note_of (front ++ old ∷ [])) ≡ map note_of
    (front ++ new ∷ [])
noted_newest entry front old new is =
    rw (
      map-append note_of front (old ∷ []),
      map-append note_of front (new ∷ []),
      note_newest_append entry (map note_of front)
          (note_of old),
      is,
    ) refl

pub noted_message : (entry : Entry) (front : List Trace) (old : Trace) (contexts : List Entry)
    → note_message entry (map note_of (front ++ old ∷ [])) contexts ≡ contexts
noted_message entry front old contexts =
    rw (map-append note_of front (old ∷ []), note_message_append entry (map note_of front) (note_of old) contexts) refl
