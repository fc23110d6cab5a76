-- What an `Error` says, and what a call that can fail returns.
use Rattle.std.specs.Prelude.{◌≡◌, ℕ, List, Option, None, Some, Result, Ok, Err, map, string_bytes, IfSome, option_map}
use Rattle.std.specs.Borrow.{Bor}
use Rattle.liquid_error.specs.declared.cause.CauseOf.{CauseOf}
use Rattle.liquid_error.specs.declared.cause.CauseOf.TheVariants as cause_of
use Rattle.liquid_error.specs.declared.cause.CloneableError.{CloneableError}
use Rattle.liquid_error.specs.declared.error.Error.{Error, fold-Error}
use Rattle.liquid_error.specs.declared.error.Error.TheOpen.{Error-F}
use Rattle.liquid_error.specs.declared.report.Context.{Context}
use Rattle.liquid_error.specs.declared.report.Trace.{Trace}
use Rattle.liquid_error.specs.declared.report.Report.{Report}
use Rattle.liquid_error.specs.meaning.Sites.{place_of}
use Rattle.liquid_error.specs.meaning.Refusal.{Entry, Note, Refusal, Reason, no_reason, by_text, with_cause, reason_of_told}

abbrev pub entry_of : Context → Entry
entry_of c = (string_bytes c.key, string_bytes c.value)

abbrev pub note_of : Trace → Note
note_of t = record { text = string_bytes t.text; contexts = map entry_of t.contexts.items }

-- a report alone, which has no cause
abbrev pub refusal_of : Report → Refusal
refusal_of r = record {
  message = string_bytes r.message;
  contexts = map entry_of r.contexts.items;
  traces =
      map note_of r.traces.items;
  place = place_of r.location;
  cause = no_reason;
}

-- the text that a kept error has
abbrev pub kept_text : CloneableError → List ℕ
kept_text e = string_bytes e.text

-- what a cause means, given what the errors inside say
abbrev pub reason_step : CauseOf (Option Refusal) → Reason
reason_step (cause_of.Error e) = reason_of_told e.value
reason_step (cause_of.Cloneable e) = by_text (kept_text e)

abbrev pub told_step : Error-F (Option Refusal) → Option Refusal
told_step Error-F.Memory = None
told_step (Error-F.Liquid report None) = Some (refusal_of report)
told_step (Error-F.Liquid report (Some cause)) = Some (with_cause (reason_step cause) (refusal_of report))

-- the refusal that an error says, or none if it is out of memory
abbrev pub told : Error → Option Refusal
told = fold-Error (Option Refusal) told_step

-- what a cause means
abbrev pub reason_of : CauseOf Error → Reason
reason_of (cause_of.Error e) = reason_of_told (told e.value)
reason_of (cause_of.Cloneable e) = by_text (kept_text e)

-- the same for a borrowed cause, if there is one
abbrev pub source_reason : Option (Bor (CauseOf Error)) → Reason
source_reason None = no_reason
source_reason (Some cause) = reason_of cause.now

-- the new error says what the old one says, changed, unless the new one is out of memory; so an error that is made from
-- an out-of-memory error is out of memory
abbrev pub Becomes : (Refusal → Refusal) → Error → Error → Type 0
Becomes change old new = IfSome (told new) (λ r. option_map change (told old) ≡ Some r)

-- the call returns what is meant: the value or the refusal; an out-of-memory error says nothing about the meaning
abbrev pub Gives : {A B : Type 0} → (A → B) → Result A Error → Result B Refusal → Type 0
Gives f (Ok x) meant = meant ≡ Ok (f x)
Gives f (Err e) meant = IfSome (told e) (λ r. meant ≡ Err r)
