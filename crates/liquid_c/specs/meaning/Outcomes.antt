-- What a call leaves with its caller: bytes in the caller's memory, and a record that says how the page ended.
use Rattle.std.specs.Prelude.{
  ◌≡◌,
  ℕ,
  ◌<◌,
  ◌≤◌,
  min,
  ◌⊎◌,
  List,
  codes,
  ◌++◌,
  length,
  take,
  drop,
  nat_le,
  Option,
  None,
  Some,
  IfSome,
  map,
  if◌then◌else◌,
}
use Rattle.liquid_dates.specs.declared.date_time.DateTime.{DateTime}
use Rattle.liquid_error.specs.declared.place.Place.{Place}
use Rattle.liquid_error.specs.meaning.ErrorText.{error_text}
use Rattle.liquid_pages.specs.declared.fault.PageText.{PageText}
use Rattle.liquid_pages.specs.declared.fault.PageText.TheVariants.{Template, Globals, PartialName, PartialText}
use Rattle.liquid_pages.specs.meaning.Faults.{Fault, no_text, bad_json, no_globals, unparsed, refused}
use Rattle.liquid_pages.specs.meaning.FaultText.{fault_text}
use Rattle.liquid_pages.specs.meaning.Shown.{Page, Begins, bytes_of_partial}
use Rattle.liquid_c.specs.declared.page.Outcome.{Outcome}
use Rattle.liquid_c.specs.declared.page.Page.{Page as Asked}
use Rattle.liquid_c.specs.meaning.Languages.{ComesToIn}
use Rattle.liquid_c.specs.meaning.Moments.{HasMoment, LacksMoment}
use Rattle.liquid_c.specs.meaning.Options.{dialect_of, page_options}

-- the kinds, by their numbers in the header
abbrev pub kind_of : Fault → ℕ
kind_of (unparsed refusal) = 1
kind_of (refused refusal) = 2
kind_of bad_json = 3
kind_of (no_globals refusal) = 4
kind_of (no_text which) = 5

-- the line and the column of a place, and zeros where there is none
abbrev pub IsPlaced : Option Place → Outcome → Type 0
IsPlaced None o = (o.line ≡ 0) × (o.column ≡ 0)
IsPlaced (Some place) o = (o.line ≡ place.line) × (o.column ≡ place.column)

-- an outcome of this kind, and nothing else in it
abbrev pub outcome_alone : ℕ → Outcome
outcome_alone kind =
    record { kind = kind; which = 0; partial = 0; line = 0; column = 0; needed = 0; written = 0; message_len = 0; limit = 0 }

-- no text of the page is named
abbrev pub IsUnnamed : Outcome → Type 0
IsUnnamed o = (o.which ≡ 0) × (o.partial ≡ 0)

-- which text of the page: the template, the globals, or the name or the text of the partial of this number
abbrev pub IsWhich : PageText → Outcome → Type 0
IsWhich Template o = (o.which ≡ 0) × (o.partial ≡ 0)
IsWhich Globals o = (o.which ≡ 1) × (o.partial ≡ 0)
IsWhich (PartialName n) o = (o.which ≡ 2) × (o.partial ≡ n)
IsWhich (PartialText n) o = (o.which ≡ 3) × (o.partial ≡ n)

-- where a fault is. Left open are the place of bad JSON, and for an error of rendering the text that it is in, and its place
-- if reading a partial did not find it
abbrev pub IsWhere : Fault → Outcome → Type 0
IsWhere (unparsed refusal) o = IsPlaced refusal.place o × IsUnnamed o
IsWhere (refused refusal) o = IfSome refusal.place (λ place. IsPlaced (Some place) o)
IsWhere bad_json o = IsWhich Globals o
IsWhere (no_globals refusal) o = IsPlaced None o × IsUnnamed o
IsWhere (no_text which) o = IsPlaced None o × IsWhich which o

-- the limit that stopped the page: none (0), that of turns (1) or that of bytes (2). Only an error of rendering has one;
-- which it is, is left open
abbrev pub IsLimited : Fault → Outcome → Type 0
IsLimited (unparsed refusal) o = o.limit ≡ 0
IsLimited (refused refusal) o = o.limit ≤ 2
IsLimited bad_json o = o.limit ≡ 0
IsLimited (no_globals refusal) o = o.limit ≡ 0
IsLimited (no_text which) o = o.limit ≡ 0

-- the message is as long as this text, if it is known, or has no byte if there was no memory for it
abbrev pub IsSaid : Option (List ℕ) → ℕ → Type 0
IsSaid text len = IfSome text (λ bytes. (len ≡ 0) ⊎ (len ≡ length bytes))

-- how a page ended that was rendered into so much room: whole, or too long for it (7); or its fault
abbrev pub Reports : Option Fault → ℕ → Outcome → Type 0
Reports None room o =
    (o.kind ≡ (if nat_le o.needed room then 0 else 7)) × (IsPlaced None o × (IsUnnamed o × ((o.limit ≡ 0) × (o.message_len ≡ 0))))
Reports (Some fault) room o =
    (o.kind ≡ kind_of fault) × (IsWhere fault o × (IsLimited fault o × IsSaid (fault_text fault) o.message_len))

-- memory ran out (6), which has no place
abbrev pub OutOfMemory : Outcome → Type 0
OutOfMemory o = (o.kind ≡ 6) × (IsPlaced None o × (IsUnnamed o × (o.limit ≡ 0)))

-- the same, and the message is that of an error that is out of memory
abbrev pub SaysMemory : Outcome → Type 0
SaysMemory o = OutOfMemory o × IsSaid (Some (error_text None)) o.message_len

-- memory that held these bytes has the first of what was rendered, as many as it has room for, and then what it held
pub record Leaves (page : Page) (old new : List ℕ) (o : Outcome) : Type 0 where
  pub rendered : List ℕ
  pub needed : o.needed ≡ length rendered
  pub written : o.written ≡ min (length rendered) (length old)
  pub bytes : new ≡ take o.written rendered ++ drop o.written old
  -- what was rendered is the page's output, and the outcome says how it ended; out of memory it is a beginning of it
  pub ends : (SaysMemory o × Begins rendered page) ⊎ ((rendered ≡ page.output) × Reports page.fault (length old) o)

-- options that there are none of are refused (8), and nothing is written
abbrev pub Unasked : List ℕ → List ℕ → Outcome → Type 0
Unasked old new o = (o ≡ outcome_alone 8) × (new ≡ old)

-- the outcome of a page whose moment is none (9): nothing else is in it, but the length of its message
abbrev pub without_moment : Outcome
without_moment = record (outcome_alone 9) { message_len = length (codes "liquid: now is not a date or a date time\n") }

-- such a page is refused, or memory ran out (6) before that was known, and nothing is written
abbrev pub Momentless : List ℕ → List ℕ → Outcome → Type 0
Momentless old new o = ((o ≡ without_moment) ⊎ (o ≡ outcome_alone 6)) × (new ≡ old)

-- what a call leaves of the page that it was asked for, over these globals
abbrev pub LeavesOver : Asked → List ℕ → List ℕ → List ℕ → Outcome → Type 0
LeavesOver asked globals old new o =
    (asked.options < 64 → (now : Option DateTime) → HasMoment asked now → (page : Page)
    → ComesToIn now (dialect_of asked.options) (page_options asked) asked.text.now globals (map bytes_of_partial asked.partials.now) page
    → Leaves page old new o)
    × (asked.options < 64 → LacksMoment asked → Momentless old new o)
    × (64 ≤ asked.options → Unasked old new o)

-- the same over the page's own globals
abbrev pub LeavesAsked : Asked → List ℕ → List ℕ → Outcome → Type 0
LeavesAsked asked old new o = LeavesOver asked asked.globals.now old new o
