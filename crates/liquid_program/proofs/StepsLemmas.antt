-- What each step of a command requests and reports.
use Rattle.std.proofs.Common.{Bor, ◌≡◌, ◌∙◌, ℕ, List, [], ◌∷◌, ◌++◌, Bool, true, false, Option, None, Some, Result, Ok, Err, String}
use Rattle.std.proofs.Common.{Global, BTreeMap, string_bytes, map, option_map, refl, sym, ap, subst, inl, inr, append-nil, append_assoc}
use Rattle.std.proofs.Common.{true≢false, arith}
use Rattle.std.proofs.lemmas.Str.{IsUtf8-from_is_utf8, is_utf8-from_IsUtf8}
use Rattle.std.specs.Prelude.{is_some, if◌then◌else◌}
use Rattle.std.specs.Option.{option_map_or, unwrap_or}
use Rattle.std.specs.Str.{is_utf8}
use Rattle.std.specs.FinMap.{empty, keys}
use Rattle.liquid_plugins.specs.meaning.Registry.{by_name}
use Rattle.liquid_pages.specs.meaning.Globals.{json_object}
use Rattle.liquid_program.specs.declared.fault.Fault.{Fault}
use Rattle.liquid_program.specs.declared.fault.Fault.TheVariants.{
  Refused,
  Explained,
  Usage,
  Unreadable,
  UnreadableInFolder,
  Unwritable,
  OwnFile,
}
use Rattle.liquid_program.specs.declared.fault.Fault.TheVariants.{BadJson, NoGlobals}
use Rattle.liquid_program.specs.meaning.Command.{option_words}
use Rattle.liquid_files.specs.meaning.Files.{Request, Requests, also, listing, reading}
use Rattle.liquid_program.specs.meaning.Gathered.{WithText, WithNames, in_order, names_into, path_in}
use Rattle.liquid_program.specs.meaning.PagesCommand.{AskedPages}
use Rattle.liquid_program.specs.meaning.Requests.{Follows, IsMemory, OutOfMemory, Step, Trouble, command_steps, file_steps, folder_steps}
use Rattle.liquid_program.specs.meaning.Requests.{globals_at, globals_trouble, object_trouble, pages_steps, partials_steps, reported}
use Rattle.liquid_program.specs.meaning.Requests.{template_step, text_at, text_trouble, trouble_in, unreadable, up_to_trouble}
use Rattle.liquid_program.specs.meaning.Status.{fault_status}
use Rattle.liquid_program.specs.steps.Steps.{Brings, Collects, CollectsAll, CollectsSome, Reports, ReportsAny, ReportsSome}
use Rattle.liquid_program.specs.steps.Steps.{ReportsTrouble, Requested, Stops}
use Rattle.liquid_program.proofs.RequestsLemmas.{FollowsFault, all_then, also_nothing, collects_then, collects_stop, follows_done}
use Rattle.liquid_program.proofs.RequestsLemmas.{follows_stop, maybe_stops, none_begun, one_clear, one_stops, some_then}
use Rattle.liquid_program.proofs.RequestsLemmas.{templates_collect}

-- files that are known
abbrev pub FilesAt : Type 0
FilesAt = List ℕ → Option (List ℕ)

abbrev pub FoldersAt : Type 0
FoldersAt = Bool → List ℕ → Option (List (List ℕ))

reported_status : (fault : Fault) (trouble : Trouble) → reported fault ≡ Some trouble → fault_status fault ≡ 3
reported_status (Refused error) trouble is = absurd (true≢false (sym (ap is_some is)))
reported_status (Explained error notes) trouble is = absurd (true≢false (sym (ap is_some is)))
reported_status Usage trouble is = absurd (true≢false (sym (ap is_some is)))
reported_status (Unreadable path) trouble is = refl
reported_status (UnreadableInFolder path) trouble is = refl
reported_status (Unwritable path) trouble is = absurd (true≢false (sym (ap is_some is)))
reported_status (OwnFile path) trouble is = absurd (true≢false (sym (ap is_some is)))
reported_status (BadJson path note) trouble is = refl
reported_status (NoGlobals error note) trouble is = refl

-- a fault with the status of out of memory reports no trouble
only_memory : (fault : Fault) (trouble : Trouble) → fault_status fault ≡ 1 → ReportsTrouble trouble fault → OutOfMemory fault
only_memory fault trouble one (inl is) = absurd (omega (arith, one, reported_status fault trouble is))
only_memory fault trouble one (inr memory) = memory

reported_any : (fault : Fault) (trouble : Trouble) → ReportsTrouble trouble fault → ReportsSome (Some trouble) fault
reported_any fault trouble (inl is) = inl (trouble, refl, is)
reported_any fault trouble (inr memory) = inr memory

abbrev ReadText : Option (List ℕ) → Result (String Global) Fault → Type 0
ReadText file result = WithText (Some file) (Stops result) (λ text. Brings (string_bytes {Z = Global}) text result)

not_text : (bytes : List ℕ) (result : Result (String Global) Fault) → is_utf8 bytes ≡ false → ReadText (Some bytes) result → Stops result
not_text bytes result is read = read.1 (λ utf8. true≢false (sym (is_utf8-from_IsUtf8 bytes utf8) ∙ is))

text_case : (bytes path : List ℕ) (b : Bool) (result : Result (String Global) Fault) → is_utf8 bytes ≡ b → ReadText (Some bytes) result
    → Reports (unreadable path) result
    → ReportsAny (if b then None else Some (unreadable path)) result
text_case bytes path true (Ok text) is read reports = refl
text_case bytes path true (Err fault) is read reports =
    inr (only_memory fault (unreadable path) (read.0 (IsUtf8-from_is_utf8 bytes is)) reports)
text_case bytes path false (Ok text) is read reports = absurd (not_text bytes (Ok text) is read)
text_case bytes path false (Err fault) is read reports = reported_any fault (unreadable path) reports

text_reports : (file : Option (List ℕ)) (path : List ℕ) (result : Result (String Global) Fault) → ReadText file result
    → Reports (unreadable path) result → ReportsAny (text_trouble path file) result
text_reports None path (Ok text) read reports = absurd read
text_reports None path (Err fault) read reports = reported_any fault (unreadable path) reports
text_reports (Some bytes) path result read reports = text_case bytes path (is_utf8 bytes) result refl read reports

-- a text at a path, where what is there is known
pub text_known : (file : Option (List ℕ)) (here : Option (Option (List ℕ))) (path : List ℕ) (result : Result (String Global) Fault)
    → here ≡ Some file
    → WithText here (Stops result) (λ text. Brings (string_bytes {Z = Global}) text result) → Reports (unreadable path) result
    → ReportsAny (text_trouble path file) result
text_known file here path result known read reports =
    text_reports file path result (subst (λ h. WithText h (Stops result) (λ text. Brings (string_bytes {Z = Global}) text result)) known
    read) reports

brought_case : (bytes : List ℕ) (b : Bool) (text : String Global) → is_utf8 bytes ≡ b → ReadText (Some bytes) (Ok text)
    → bytes ≡ string_bytes text
brought_case bytes true text is read = sym (read.0 (IsUtf8-from_is_utf8 bytes is))
brought_case bytes false text is read = absurd (not_text bytes (Ok text) is read)

brought : (file : Option (List ℕ)) (text : String Global) → ReadText file (Ok text) → unwrap_or file [] ≡ string_bytes text
brought None text read = absurd read
brought (Some bytes) text read = brought_case bytes (is_utf8 bytes) text refl read

-- globals that are not text
pub globals_unread : (decimals : Bool) (file : Option (List ℕ)) (path : List ℕ) (fault : Fault) → ReportsSome (text_trouble path file) fault
    → ReportsSome (globals_trouble decimals path file) fault
globals_unread decimals file path fault (inl is) =
    inl (is.0, ap (λ t. option_map_or Some t (object_trouble path (json_object decimals (unwrap_or file [])))) is.1, is.2)
globals_unread decimals file path fault (inr memory) = inr memory

-- globals that are a text have the trouble of its JSON
pub globals_known : (decimals : Bool) (file : Option (List ℕ)) (here : Option (Option (List ℕ))) (path : List ℕ) (text : String Global)
    → here ≡ Some file
    → WithText here (Stops (Ok text)) (λ bytes. Brings (string_bytes {Z = Global}) bytes (Ok text))
    → globals_trouble decimals path file ≡ object_trouble path (json_object decimals (string_bytes text))
globals_known decimals file here path text known read =
    let there : ReadText file (Ok text) =
    subst (λ h. WithText h (Stops (Ok text)) (λ bytes. Brings (string_bytes {Z = Global}) bytes (Ok text))) known read in
    let none : text_trouble path file ≡ None = text_reports file path (Ok text) there tt in
    ap (λ t. option_map_or Some t (object_trouble path (json_object decimals (unwrap_or file [])))) none
    ∙ ap (λ b. object_trouble path (json_object decimals b)) (brought file text there)

pub globals_refused : (decimals : Bool) (file : Option (List ℕ)) (here : Option (Option (List ℕ))) (path : List ℕ) (text : String Global)
    (fault : Fault)
    → here ≡ Some file
    → WithText here (Stops (Ok text)) (λ bytes. Brings (string_bytes {Z = Global}) bytes (Ok text))
    → ReportsSome (object_trouble path (json_object decimals (string_bytes text))) fault
    → ReportsSome (globals_trouble decimals path file) fault
globals_refused decimals file here path text fault known read reports =
    subst (λ any. ReportsSome any fault) (sym (globals_known decimals file here path text known read)) reports

-- the names of a folder can't be read
pub folder_stops : (files : FilesAt) (folder : List ℕ) (ending : Option (List ℕ)) (names : Option (List (List ℕ)))
    (here : Option (Option (List (List ℕ)))) (before after : Requests) (fault : Fault) → here ≡ Some names
    → WithNames here (Stops {A = BTreeMap (String Global) (Unit {0})} (Err fault))
    (λ ns. Brings (by_name {X = Unit {0}}) (names_into ending empty ns) (Err fault))
    → ReportsTrouble (unreadable folder) fault → after ≡ also before (listing (is_some ending) folder ∷ [])
    → CollectsSome (folder_steps files folder ending names) before after fault
folder_stops files folder ending None here before after fault known read reports same =
    one_stops (listing (is_some ending) folder) (Some (unreadable folder)) before after fault same
    (reported_any fault (unreadable folder) reports)
folder_stops files folder ending (Some names) here before after fault known read reports same =
    let one : fault_status fault ≡ 1 =
    subst (λ h. WithNames h (Stops {A = BTreeMap (String Global) (Unit {0})} (Err fault))
    (λ ns. Brings (by_name {X = Unit {0}}) (names_into ending empty ns) (Err fault))) known read in
    inr (
      only_memory fault (unreadable folder) one reports,
      (
        listing (is_some ending) folder ∷ [],
        up_to_trouble (file_steps files folder (unwrap_or ending []) (in_order ending names)),
        refl,
        same,
      ),
    )

-- the names, and then the files
pub folder_collects : {A : Type 0} (files : FilesAt) (folder : List ℕ) (ending : Option (List ℕ)) (listed : Option (List (List ℕ)))
    (here : Option (Option (List (List ℕ)))) (names : BTreeMap (String Global) (Unit {0})) (before between after : Requests)
    (result : Result A Fault)
    → here ≡ Some listed → WithNames here (Stops (Ok names)) (λ ns. Brings by_name (names_into ending empty ns) (Ok names))
    → between ≡ also before (listing (is_some ending) folder ∷ [])
    → Collects (file_steps files folder (unwrap_or ending []) (keys (by_name names))) between after result
    → Collects (folder_steps files folder ending listed) before after result
folder_collects files folder ending None here names before between after result known read same collects =
    absurd (subst (λ h. WithNames h (Stops (Ok names)) (λ ns. Brings by_name (names_into ending empty ns) (Ok names))) known read)
folder_collects files folder ending (Some ns) here names before between after result known read same collects =
    let is : by_name names ≡ names_into ending empty ns =
    subst (λ h. WithNames h (Stops (Ok names)) (λ ns. Brings by_name (names_into ending empty ns) (Ok names))) known read in
    collects_then (record { request = listing (is_some ending) folder; trouble = None } ∷ [])
    (file_steps files folder (unwrap_or ending []) (in_order ending ns)) before between after result (same, refl)
    (subst (λ m. Collects (file_steps files folder (unwrap_or ending []) (keys m)) between after result) is collects)

-- the files of these names were read, one after another
steps_more : (files : FilesAt) (folder ending : List ℕ) (front rest : List (List ℕ))
    → file_steps files folder ending (front ++ rest) ≡ file_steps files folder ending front ++ file_steps files folder ending rest
steps_more files folder ending [] rest = refl
steps_more files folder ending (name ∷ front) rest =
    ap (λ steps. text_at files (path_in folder ending name) ∷ steps) (steps_more files folder ending front rest)

abbrev pub CameSoFar : FilesAt → List ℕ → List ℕ → List (List ℕ) → List (List ℕ) → Requests → Requests → Type 0
CameSoFar files folder ending names rest before now =
    (front : List (List ℕ)) × (names ≡ front ++ rest) × CollectsAll (file_steps files folder ending front) before now

pub nothing_came : (files : FilesAt) (folder ending : List ℕ) (names rest : List (List ℕ)) (before : Requests) → names ≡ rest
    → CameSoFar files folder ending names rest before before
nothing_came files folder ending names rest before same = ([], same, (sym (also_nothing before), refl))

steps_split : (files : FilesAt) (folder ending : List ℕ) (names front rest : List (List ℕ)) → names ≡ front ++ rest
    → file_steps files folder ending front ++ file_steps files folder ending rest ≡ file_steps files folder ending names
steps_split files folder ending names front rest same =
    sym (ap (λ ns. file_steps files folder ending ns) same ∙ steps_more files folder ending front rest)

pub came_more : (files : FilesAt) (folder name ending : List ℕ) (names rest : List (List ℕ)) (before now after : Requests)
    → CameSoFar files folder ending names (name ∷ rest) before now
    → after ≡ also now (reading (path_in folder ending name) ∷ [])
    → text_trouble (path_in folder ending name) (files (path_in folder ending name)) ≡ None
    → CameSoFar files folder ending names rest before after
came_more files folder name ending names rest before now after so_far same none = (
  so_far.0 ++ (name ∷ []),
  so_far.1 ∙ sym (append_assoc so_far.0 (name ∷ []) rest),
  subst (λ steps. CollectsAll steps before after) (sym (steps_more files folder ending so_far.0 (name ∷ [])))
      (all_then (file_steps files folder ending so_far.0) (text_at files (path_in folder ending name) ∷ []) before now after so_far.2
      (one_clear (reading (path_in folder ending name)) (text_trouble (path_in folder ending name) (files (path_in folder ending name))) now
      after same none)),
)

-- a text that was read was requested
pub was_requested : {A : Type 0} (request : Request) (before after : Requests) (result : Result A Fault) (x : A) → result ≡ Ok x
    → Requested request before after result → after ≡ also before (request ∷ [])
was_requested request before after result x is (inl same) = same
was_requested request before after result x is (inr none) = absurd (subst (λ r. IsMemory r) is none.0)

pub came_stops : (files : FilesAt) (folder name ending : List ℕ) (names rest : List (List ℕ)) (before now after : Requests)
    (result : Result (String Global) Fault) (fault : Fault) → result ≡ Err fault
    → CameSoFar files folder ending names (name ∷ rest) before now → Requested (reading (path_in folder ending name)) now after result
    → ReportsSome (text_trouble (path_in folder ending name) (files (path_in folder ending name))) fault
    → CollectsSome (file_steps files folder ending names) before after fault
came_stops files folder name ending names rest before now after result fault is so_far requested reports =
    subst (λ steps. CollectsSome steps before after fault) (steps_split files folder ending names so_far.0 (name ∷ rest) so_far.1)
    (some_then (file_steps files folder ending so_far.0) (file_steps files folder ending (name ∷ rest)) before now after fault so_far.2
    (collects_stop (text_at files (path_in folder ending name) ∷ []) (file_steps files folder ending rest) now after fault
    (maybe_stops (reading (path_in folder ending name)) (text_trouble (path_in folder ending name) (files (path_in folder ending name))) now
    after result fault is requested reports)))

pub came_memory : (files : FilesAt) (folder ending : List ℕ) (names rest : List (List ℕ)) (before now : Requests) (fault : Fault)
    → CameSoFar files folder ending names rest before now → OutOfMemory fault
    → CollectsSome (file_steps files folder ending names) before now fault
came_memory files folder ending names rest before now fault so_far memory =
    subst (λ steps. CollectsSome steps before now fault) (steps_split files folder ending names so_far.0 rest so_far.1)
    (some_then (file_steps files folder ending so_far.0) (file_steps files folder ending rest) before now now fault so_far.2
    (inr (memory, none_begun (up_to_trouble (file_steps files folder ending rest)) now)))

pub came_all : (files : FilesAt) (folder ending : List ℕ) (names rest : List (List ℕ)) (before now : Requests)
    → CameSoFar files folder ending names rest before now → rest ≡ []
    → CollectsAll (file_steps files folder ending names) before now
came_all files folder ending names rest before now so_far none =
    subst (λ ns. CollectsAll (file_steps files folder ending ns) before now)
    (sym (so_far.1 ∙ ap (λ ns. so_far.0 ++ ns) none ∙ append-nil so_far.0)) so_far.2

pub folder_named : (files : FilesAt) (folders : FoldersAt) (ending : Option (List ℕ)) (folder : Option (Bor (List ℕ)))
    (named : Bor (List ℕ)) → folder ≡ Some named
    → partials_steps files folders (option_words (option_map (λ f. f.now) folder)) ending ≡ folder_steps files named.now ending
    (folders (is_some ending) named.now)
folder_named files folders ending folder named is =
    ap (λ (f : Option (Bor (List ℕ))). partials_steps files folders (option_words (option_map (λ (w : Bor (List ℕ)). w.now) f)) ending) is

-- a command
module _ (files : FilesAt) (folders : FoldersAt) (decimals : Bool) (template globals : List ℕ) (words : List (List ℕ))
    (ending : Option (List ℕ))
    (before : Requests) where
  abbrev Steps : List Step
  Steps = command_steps files folders decimals (template ∷ globals ∷ words) ending

  abbrev Parts : List Step
  Parts = partials_steps files folders words ending

  abbrev AfterTemplate : List Step
  AfterTemplate = globals_at files decimals globals ∷ Parts

  pub template_stops : (after : Requests) (fault : Fault) → after ≡ also before (reading template ∷ [])
      → ReportsSome (text_trouble template (files template)) fault → FollowsFault Steps before after fault
  template_stops after fault same reports =
      follows_stop Steps before after fault
      (collects_stop (text_at files template ∷ []) AfterTemplate before after fault
      (one_stops (reading template) (text_trouble template (files template)) before after fault same reports))

  module _ (first : Requests) (made : first ≡ also before (reading template ∷ []))
      (there : text_trouble template (files template) ≡ None) where
    after_template : CollectsAll (text_at files template ∷ []) before first
    after_template = one_clear (reading template) (text_trouble template (files template)) before first made there

    pub globals_stop : (after : Requests) (fault : Fault) → after ≡ also first (reading globals ∷ [])
        → ReportsSome (globals_trouble decimals globals (files globals)) fault → FollowsFault Steps before after fault
    globals_stop after fault same reports =
        follows_stop Steps before after fault
        (some_then (text_at files template ∷ []) AfterTemplate before first after fault after_template
        (collects_stop (globals_at files decimals globals ∷ []) Parts first after fault
        (one_stops (reading globals) (globals_trouble decimals globals (files globals)) first after fault same reports)))

    module _ (second : Requests) (also_made : second ≡ also first (reading globals ∷ []))
        (found : globals_trouble decimals globals (files globals) ≡ None) where
      after_globals : CollectsAll (globals_at files decimals globals ∷ []) first second
      after_globals = one_clear (reading globals) (globals_trouble decimals globals (files globals)) first second also_made found

      pub partials_stop : (after : Requests) (fault : Fault) → CollectsSome Parts second after fault → FollowsFault Steps before after fault
      partials_stop after fault collects =
          follows_stop Steps before after fault
          (some_then (text_at files template ∷ []) AfterTemplate before first after fault after_template
          (some_then (globals_at files decimals globals ∷ []) Parts first second after fault after_globals collects))

      pub all_followed : {B : Type 0} (after : Requests) (result : Result B Fault) → CollectsAll Parts second after
          → trouble_in result ≡ None → Follows Steps before after result
      all_followed after result collects none =
          follows_done Steps before after result
          (all_then (text_at files template ∷ []) AfterTemplate before first after after_template
          (all_then (globals_at files decimals globals ∷ []) Parts first second after after_globals collects)) none

-- several pages
module _ (files : FilesAt) (folders : FoldersAt) (pages : AskedPages) (before : Requests) where
  abbrev PagesParts : List Step
  PagesParts = partials_steps files folders (option_words pages.partials) pages.ending

  abbrev AfterGlobals : List Step
  AfterGlobals = PagesParts ++ map template_step pages.templates

  pub pages_stop : (after : Requests) (fault : Fault) → after ≡ also before (reading pages.globals ∷ [])
      → ReportsSome (globals_trouble pages.options.decimals pages.globals (files pages.globals)) fault
      → FollowsFault (pages_steps files folders pages) before after fault
  pages_stop after fault same reports =
      follows_stop (pages_steps files folders pages) before after fault
      (collects_stop (globals_at files pages.options.decimals pages.globals ∷ []) AfterGlobals before after fault
      (one_stops (reading pages.globals)
      (globals_trouble pages.options.decimals pages.globals (files pages.globals)) before after fault same reports))

  module _ (first : Requests) (made : first ≡ also before (reading pages.globals ∷ []))
      (found : globals_trouble pages.options.decimals pages.globals (files pages.globals) ≡ None) where
    after_pages_globals : CollectsAll (globals_at files pages.options.decimals pages.globals ∷ []) before first
    after_pages_globals = one_clear (reading pages.globals)
        (globals_trouble pages.options.decimals pages.globals (files pages.globals)) before first made found

    pub pages_partials_stop : (after : Requests) (fault : Fault) → CollectsSome PagesParts first after fault
        → FollowsFault (pages_steps files folders pages) before after fault
    pages_partials_stop after fault collects =
        follows_stop (pages_steps files folders pages) before after fault
        (some_then (globals_at files pages.options.decimals pages.globals ∷ []) AfterGlobals before first after fault after_pages_globals
        (collects_stop PagesParts (map template_step pages.templates) first after fault collects))

    pub pages_followed : (read after : Requests) (status : ℕ) → CollectsAll PagesParts first read
        → after ≡ also read (map reading pages.templates) → Follows {A = ℕ} (pages_steps files folders pages) before after (Ok status)
    pages_followed read after status collects each =
        follows_done (pages_steps files folders pages) before after (Ok status)
        (all_then (globals_at files pages.options.decimals pages.globals ∷ []) AfterGlobals before first after after_pages_globals
        (all_then PagesParts (map template_step pages.templates) first read after collects
        (templates_collect pages.templates read after each))) refl
