-- What each step of reading returns: what was requested, or the status of a fault.
use Rattle.std.specs.Prelude.{◌≡◌, ℕ, ◌⊎◌, List, [], ◌∷◌, Option, None, Some, Result, Ok, Err, String, option_map, string_bytes, ⊤}
use Rattle.std.specs.Borrow.{Bor}
use Rattle.std.specs.declared.alloc.Global.{Global}
use Rattle.liquid_program.specs.declared.fault.Fault.{Fault}
use Rattle.liquid_files.specs.declared.folder.Unread.{Unread}
use Rattle.liquid_files.specs.declared.folder.Unread.TheVariants.{Fault as Absent, Memory}
use Rattle.liquid_files.specs.meaning.Files.{Request, Requests, also}
use Rattle.liquid_program.specs.meaning.Requests.{Begins, IsMemory, OutOfMemory, Step, Trouble, first_trouble, reported, up_to_trouble}
use Rattle.liquid_program.specs.meaning.Status.{fault_status}

-- the text that is given, if one is
abbrev pub given : Option (Bor (List ℕ)) → Option (List ℕ)
given = option_map (λ text. text.now)

-- what was requested can't be read, or memory ran out
abbrev pub Stops : {A : Type 0} → Result A Fault → Type 0
Stops (Ok x) = ⊥
Stops (Err fault) = (fault_status fault ≡ 3) ⊎ (fault_status fault ≡ 1)

-- what was requested, unless memory ran out
abbrev pub Brings : {A B : Type 0} → (A → B) → B → Result A Fault → Type 0
Brings of meant (Ok x) = of x ≡ meant
Brings of meant (Err fault) = fault_status fault ≡ 1

-- the same for a read whose path is given later
abbrev pub StopsUnread : Result (String Global) Unread → Type 0
StopsUnread (Ok text) = ⊥
StopsUnread (Err unread) = ⊤

abbrev pub BringsText : List ℕ → Result (String Global) Unread → Type 0
BringsText bytes (Ok text) = string_bytes text ≡ bytes
BringsText bytes (Err Absent) = ⊥
BringsText bytes (Err Memory) = ⊤

-- a fault reports this trouble, or memory ran out
abbrev pub ReportsTrouble : Trouble → Fault → Type 0
ReportsTrouble trouble fault = (reported fault ≡ Some trouble) ⊎ OutOfMemory fault

abbrev pub Reports : {A : Type 0} → Trouble → Result A Fault → Type 0
Reports trouble (Ok x) = ⊤
Reports trouble (Err fault) = ReportsTrouble trouble fault

-- there is a trouble, which a fault reports, or memory ran out
abbrev pub ReportsSome : Option Trouble → Fault → Type 0
ReportsSome any fault = ((trouble : Trouble) × (any ≡ Some trouble) × (reported fault ≡ Some trouble)) ⊎ OutOfMemory fault

abbrev pub ReportsAny : {A : Type 0} → Option Trouble → Result A Fault → Type 0
ReportsAny any (Ok x) = any ≡ None
ReportsAny any (Err fault) = ReportsSome any fault

-- a request was made, unless memory ran out before it
abbrev pub Requested : {A : Type 0} → Request → Requests → Requests → Result A Fault → Type 0
Requested request before after result = (after ≡ also before (request ∷ [])) ⊎ (IsMemory result × (after ≡ before))

-- all requests were made, and there is no trouble
abbrev pub CollectsAll : List Step → Requests → Requests → Type 0
CollectsAll steps before after = (after ≡ also before (up_to_trouble steps)) × (first_trouble steps ≡ None)

-- the requests up to the first trouble were made, which a fault reports; or memory ran out after some of them
abbrev pub CollectsSome : List Step → Requests → Requests → Fault → Type 0
CollectsSome steps before after fault =
    ((after ≡ also before (up_to_trouble steps)) × (trouble : Trouble) × (first_trouble steps ≡ Some trouble)
    × (reported fault ≡ Some trouble))
    ⊎ (OutOfMemory fault × Begins (up_to_trouble steps) before after)

abbrev pub Collects : {A : Type 0} → List Step → Requests → Requests → Result A Fault → Type 0
Collects steps before after (Ok x) = CollectsAll steps before after
Collects steps before after (Err fault) = CollectsSome steps before after fault
