-- What the program writes to its output and to files, by its words and the files that they name.
use Rattle.std.specs.Prelude.{◌≡◌, ◌≢◌, ◌==◌, ◌⊎◌, ℕ, List, [], ◌∷◌, ◌++◌, Bool, Option, None, Some, MatchOption, nat_eq, codes}
use Rattle.std.specs.Prelude.{if◌then◌else◌}
use Rattle.std.specs.List.{ends_with}
use Rattle.std.specs.Option.{unwrap_or}
use Rattle.std.specs.Path.{path_file_name}
use Rattle.liquid_runtime.specs.meaning.Maps.{Names}
use Rattle.liquid_template.specs.meaning.Sunk.{Sunk}
use Rattle.liquid_partials.specs.meaning.Sources.{Texts}
use Rattle.liquid_program.specs.meaning.Command.{Asked, command_of, first_word, option_words}
use Rattle.liquid_files.specs.meaning.Files.{Replaces, Same}
use Rattle.liquid_program.specs.meaning.Gathered.{GathersGlobals}
use Rattle.liquid_program.specs.meaning.PagesCommand.{AskedPages, pages_of}
use Rattle.liquid_program.specs.meaning.Program.{Executes, ExecutesOne, Printed}

-- whether a path names a folder, by its end
abbrev pub is_folder : List ℕ → Bool
is_folder path = ends_with nat_eq path (codes "/")

-- the file in a folder that has the name of a template
abbrev pub file_in : List ℕ → List ℕ → List ℕ
file_in folder template = folder ++ unwrap_or (path_file_name template) []

-- the file that one page is written to
abbrev pub page_file : List ℕ → List ℕ → List ℕ
page_file place template = if is_folder place then file_in place template else place

-- the folder that several pages are written to, with a slash at its end
abbrev pub pages_folder : List ℕ → List ℕ
pages_folder place = if is_folder place then place else place ++ codes "/"

-- a whole page is in its file, unless it can't be written there; after an error all files are as they were
pub record Lands (known left : List ℕ → Option (Option (List ℕ))) (file page : List ℕ) (answered status : ℕ) : Type 0 where
  pub whole : answered ≡ 0 → ((status ≡ 0) × Replaces known left file page) ⊎ ((status ≡ 1) × Same known left)
  pub broken : answered ≢ 0 → (status ≡ answered) × Same known left

-- what is printed goes to a file instead
pub record WritesFile (Done : Sunk → Sunk → ℕ → Type 0) (file : List ℕ) (known left : List ℕ → Option (Option (List ℕ)))
    (status : ℕ) : Type 0 where
  pub page : List ℕ
  pub answered : ℕ
  pub printed : Printed Done (Some []) (Some page) answered
  pub landed : Lands known left file page answered status

-- the page of a command goes to the file that `-o` names
abbrev pub WritesAsked : Asked → List ℕ → (List ℕ → Option (Option (List ℕ))) → (Bool → List ℕ → Option (Option (List (List ℕ))))
    → (List ℕ → Option (Option (List ℕ))) → ℕ → Type 0
WritesAsked asked place known listed left status =
    WritesFile (Executes asked.choices.options asked.choices.ending asked.paths known listed)
    (page_file place (unwrap_or (first_word asked.paths) [])) known left status

-- the first status that isn't 0
abbrev pub first_fault : ℕ → ℕ → ℕ
first_fault status other = if status == 0 then other else status

-- the page of one template, over globals and partials, goes to its file
abbrev pub WritesOne : AskedPages → Names → Option Texts → List ℕ → (List ℕ → Option (Option (List ℕ)))
    → (List ℕ → Option (Option (List ℕ))) → ℕ → Type 0
WritesOne pages globals partials template known =
    WritesFile (ExecutesOne pages.options template globals partials known) (file_in (pages_folder pages.output) template) known

-- the pages of these templates, one after another, over the same globals and partials; the status is the first that isn't 0
abbrev pub WritesEach : AskedPages → Names → Option Texts → List (List ℕ) → (List ℕ → Option (Option (List ℕ)))
    → (List ℕ → Option (Option (List ℕ))) → ℕ → ℕ → Type 0
WritesEach pages globals partials [] known left status result = Same known left × (result ≡ status)
WritesEach pages globals partials (template ∷ templates) known left status result =
    (between : List ℕ → Option (Option (List ℕ))) × (one : ℕ)
    × WritesOne pages globals partials template known between one
    × WritesEach pages globals partials templates between left (first_fault status one) result

-- no page is written: a file can't be read as what it should be, or memory ran out
abbrev pub WritesNothing : (List ℕ → Option (Option (List ℕ))) → (List ℕ → Option (Option (List ℕ))) → ℕ → Type 0
WritesNothing known left status = Same known left × ((status ≡ 3) ⊎ (status ≡ 1))

-- several pages: the globals and the partials are read once, and then each template
abbrev pub WritesPages : AskedPages → (List ℕ → Option (Option (List ℕ))) → (Bool → List ℕ → Option (Option (List (List ℕ))))
    → (List ℕ → Option (Option (List ℕ))) → ℕ → Type 0
WritesPages pages known listed left status =
    GathersGlobals pages.options.decimals pages.globals (option_words pages.partials) pages.ending known listed
    (WritesNothing known left status)
    (λ globals partials. ((status ≡ 1) × Same known left) ⊎ WritesEach pages globals partials pages.templates known left 0 status)

-- what the words do to an output, by what they do to a sink or to the content of a writer, and to files
abbrev pub Placed : {Out : Type 0} → ((Sunk → Sunk → ℕ → Type 0) → Out → Out → ℕ → Type 0) → Asked → Option (List ℕ)
    → (List ℕ → Option (Option (List ℕ))) → (Bool → List ℕ → Option (Option (List (List ℕ))))
    → (List ℕ → Option (Option (List ℕ))) → Out → Out → ℕ → Type 0
Placed shown asked None known listed left before after status =
    Same known left × shown (Executes asked.choices.options asked.choices.ending asked.paths known listed) before after status
Placed shown asked (Some place) known listed left before after status = (after ≡ before) × WritesAsked asked place known listed left status

-- words that are not a command for one page leave the output as it is
abbrev pub WritesOthers : Option AskedPages → (List ℕ → Option (Option (List ℕ))) → (Bool → List ℕ → Option (Option (List (List ℕ))))
    → (List ℕ → Option (Option (List ℕ))) → ℕ → Type 0
WritesOthers None known listed left status = Same known left × (status ≡ 2)
WritesOthers (Some pages) known listed left status = WritesPages pages known listed left status

-- a command is executed; words that are not one write nothing, with status 2
abbrev pub Prints : List (List ℕ) → (List ℕ → Option (Option (List ℕ))) → (Bool → List ℕ → Option (Option (List (List ℕ))))
    → (List ℕ → Option (Option (List ℕ))) → Option (List ℕ) → Option (List ℕ) → ℕ → Type 0
Prints words known listed left before after status =
    MatchOption (command_of words) ((after ≡ before) × WritesOthers (pages_of words) known listed left status)
    (λ asked. Placed Printed asked asked.choices.output known listed left before after status)
