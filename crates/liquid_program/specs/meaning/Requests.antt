-- Which files the program reads and which folders it lists, in order, up to the first that is not as it should be.
use Rattle.std.specs.Prelude.{◌≡◌, ℕ, ◌⊎◌, List, [], ◌∷◌, ◌++◌, Bool, Option, None, Some, is_some, Result, Ok, Err, map, option_map}
use Rattle.std.specs.Prelude.{string_bytes, if◌then◌else◌}
use Rattle.std.specs.Option.{option_map_or, unwrap_or}
use Rattle.std.specs.Str.{is_utf8}
use Rattle.liquid_error.specs.meaning.Refusal.{Refusal}
use Rattle.liquid_error.specs.meaning.Told.{told}
use Rattle.liquid_value.specs.meaning.Tree.{Members}
use Rattle.liquid_pages.specs.meaning.Globals.{json_object}
use Rattle.liquid_program.specs.declared.fault.Fault.{Fault}
use Rattle.liquid_program.specs.declared.fault.Fault.TheVariants.{Refused, Unreadable, UnreadableInFolder, BadJson, NoGlobals}
use Rattle.liquid_program.specs.meaning.Command.{command_of, option_words}
use Rattle.liquid_files.specs.meaning.Files.{Request, Requests, reading, listing, also, known_in, listed_in}
use Rattle.liquid_program.specs.meaning.Gathered.{in_order, path_in}
use Rattle.liquid_program.specs.meaning.PagesCommand.{AskedPages, pages_of}
use Rattle.liquid_program.specs.meaning.Status.{all_status}

-- what is wrong: a file is not text, or a folder can't be listed; a text is not JSON; or its JSON is not an object of values
pub data Trouble : Type 0 where
  unreadable : List ℕ → Trouble
  bad_json : List ℕ → Trouble
  no_globals : Refusal → Trouble

-- a request, and what is wrong there, if anything is
pub record Step : Type 0 where
  pub request : Request
  pub trouble : Option Trouble

-- the requests up to the first trouble
abbrev pub up_to_trouble : List Step → List Request
up_to_trouble [] = []
up_to_trouble (step ∷ steps) = step.request ∷ option_map_or (λ trouble. []) step.trouble (up_to_trouble steps)

abbrev pub first_trouble : List Step → Option Trouble
first_trouble [] = None
first_trouble (step ∷ steps) = option_map_or Some step.trouble (first_trouble steps)

-- a file should be text
abbrev pub text_trouble : List ℕ → Option (List ℕ) → Option Trouble
text_trouble path None = Some (unreadable path)
text_trouble path (Some bytes) = if is_utf8 bytes then None else Some (unreadable path)

-- a text should be JSON of an object of values
abbrev pub object_trouble : List ℕ → Option (Result Members Refusal) → Option Trouble
object_trouble path None = Some (bad_json path)
object_trouble path (Some (Err refusal)) = Some (no_globals refusal)
object_trouble path (Some (Ok _)) = None

-- globals should be both, with decimals or without
abbrev pub globals_trouble : Bool → List ℕ → Option (List ℕ) → Option Trouble
globals_trouble decimals path file =
    option_map_or Some (text_trouble path file) (object_trouble path (json_object decimals (unwrap_or file [])))

module _ (files : List ℕ → Option (List ℕ)) where
  abbrev pub text_at : List ℕ → Step
  text_at path = record { request = reading path; trouble = text_trouble path (files path) }

  abbrev pub globals_at : Bool → List ℕ → Step
  globals_at decimals path = record { request = reading path; trouble = globals_trouble decimals path (files path) }

  -- the files of partials, each of which should be text
  abbrev pub file_steps : List ℕ → List ℕ → List (List ℕ) → List Step
  file_steps folder ending names = map (λ name. text_at (path_in folder ending name)) names

  -- a folder is listed, and then the file of each partial is read
  abbrev pub folder_steps : List ℕ → Option (List ℕ) → Option (List (List ℕ)) → List Step
  folder_steps folder ending None = record { request = listing (is_some ending) folder; trouble = Some (unreadable folder) } ∷ []
  folder_steps folder ending (Some names) =
      record { request = listing (is_some ending) folder; trouble = None } ∷ file_steps folder (unwrap_or ending []) (in_order ending names)

-- one of several templates. Whatever is wrong there, the next is read
abbrev pub template_step : List ℕ → Step
template_step path = record { request = reading path; trouble = None }

module _ (files : List ℕ → Option (List ℕ)) (folders : Bool → List ℕ → Option (List (List ℕ))) where
  abbrev pub partials_steps : List (List ℕ) → Option (List ℕ) → List Step
  partials_steps [] ending = []
  partials_steps (folder ∷ words) ending = folder_steps files folder ending (folders (is_some ending) folder)

  -- the template, its globals, and the partials
  abbrev pub command_steps : Bool → List (List ℕ) → Option (List ℕ) → List Step
  command_steps decimals (template ∷ globals ∷ words) ending =
      text_at files template ∷ globals_at files decimals globals ∷ partials_steps words ending
  command_steps decimals other ending = []

  -- the globals, the partials, and then each template
  abbrev pub pages_steps : AskedPages → List Step
  pages_steps pages =
      globals_at files pages.options.decimals pages.globals
      ∷ (partials_steps (option_words pages.partials) pages.ending ++ map template_step pages.templates)

  -- other words request nothing
  abbrev pub steps_of : List (List ℕ) → List Step
  steps_of words =
      option_map_or (λ command. command_steps command.choices.options.decimals command.paths command.choices.ending) (command_of words)
      (option_map_or pages_steps (pages_of words) [])

-- the trouble that a fault reports
abbrev pub reported : Fault → Option Trouble
reported (Unreadable path) = Some (unreadable path.now)
reported (UnreadableInFolder path) = Some (unreadable (string_bytes path))
reported (BadJson path note) = Some (bad_json path.now)
reported (NoGlobals error note) = option_map no_globals (told error)
reported other = None

abbrev pub trouble_in : {A : Type 0} → Result A Fault → Option Trouble
trouble_in (Ok x) = None
trouble_in (Err fault) = reported fault

abbrev pub OutOfMemory : Fault → Type 0
OutOfMemory (Refused error) = told error ≡ None
OutOfMemory other = ⊥

abbrev pub IsMemory : {A : Type 0} → Result A Fault → Type 0
IsMemory (Ok x) = ⊥
IsMemory (Err fault) = OutOfMemory fault

-- some of these requests were made, the first ones
abbrev pub Begins : List Request → Requests → Requests → Type 0
Begins all before after = (made : List Request) × (left : List Request) × (all ≡ made ++ left) × (after ≡ also before made)

-- all requests up to the first trouble were made, and it is the one that is reported; or memory ran out after some of them
abbrev pub Follows : {A : Type 0} → List Step → Requests → Requests → Result A Fault → Type 0
Follows steps before after result =
    ((after ≡ also before (up_to_trouble steps)) × (trouble_in result ≡ first_trouble steps))
    ⊎ (IsMemory result × Begins (up_to_trouble steps) before after)

-- what holds where all files and folders are known
abbrev pub WhereKnown : (List ℕ → Option (Option (List ℕ))) → (Bool → List ℕ → Option (Option (List (List ℕ))))
    → ((List ℕ → Option (List ℕ)) → (Bool → List ℕ → Option (List (List ℕ))) → Type 0) → Type 0
WhereKnown known listed says =
    (files : List ℕ → Option (List ℕ)) (folders : Bool → List ℕ → Option (List (List ℕ))) → known ≡ known_in files
    → listed ≡ listed_in folders → says files folders

-- the exit status is that of the fault that is reported, or of what came after the last request
abbrev pub FollowsTo : List Step → Requests → Requests → ℕ → Type 0
FollowsTo steps before after status = (result : Result ℕ Fault) × Follows steps before after result × (status ≡ all_status result)

-- the requests of the words, and the exit status
abbrev pub FollowsWords : List (List ℕ) → (List ℕ → Option (Option (List ℕ))) → (Bool → List ℕ → Option (Option (List (List ℕ)))) → Requests
    → Requests → ℕ → Type 0
FollowsWords words known listed before after status =
    WhereKnown known listed (λ files folders. FollowsTo (steps_of files folders words) before after status)
