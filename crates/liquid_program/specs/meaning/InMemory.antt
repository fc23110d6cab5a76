-- What a run of the program over files in memory shows on its output.
use Rattle.std.specs.Prelude.{◌≡◌, String, ℕ, Bool, true, false, ◌⊎◌, List, [], ◌++◌, Option, None, Some, MatchOption, Ok, Err, map}
use Rattle.std.specs.Prelude.{string_bytes, option_map}
use Rattle.liquid_runtime.specs.meaning.Maps.{Names}
use Rattle.liquid_parser.specs.meaning.Reading.{Reads}
use Rattle.liquid_template.specs.meaning.Run.{Run, written}
use Rattle.liquid_partials.specs.meaning.Sources.{Texts}
use Rattle.liquid_program.specs.meaning.Command.{Asked, command_of}
use Rattle.liquid_files.specs.meaning.Files.{Same, known_in, listed_in}
use Rattle.liquid_program.specs.meaning.PagesCommand.{pages_of}
use Rattle.liquid_program.specs.meaning.Written.{WritesAsked, WritesOthers}
use Rattle.liquid_program.specs.declared.command.Options.{Options}
use Rattle.liquid_program.specs.meaning.Gathered.{Gathers}
use Rattle.liquid_plugins.specs.meaning.Nodes.{NodeShape}
use Rattle.liquid_parser.specs.meaning.Lang.{Lang}
use Rattle.liquid_template.specs.meaning.Partials.{Found}
use Rattle.liquid_pages.specs.declared.options.PageOptions.{PageOptions}
use Rattle.liquid_pages.specs.meaning.Pages.{IsFoundIn, PageAnswer, Settings}
use Rattle.liquid_pages.specs.meaning.Shown.{page_run}
use Rattle.liquid_program.specs.meaning.Program.{page_options}
use Rattle.liquid_program.specs.meaning.ProgramLanguage.{plain_language, plain_setting, standard_language, standard_setting}

-- the output is all pieces of the run, which has no refusal
abbrev pub IsWhole : {Reg : Type 0} → Run Reg → List ℕ → Type 0
IsWhole r output = (output ≡ written r) × (r.refusal ≡ None)

-- the output is a beginning of all joined pieces
abbrev pub IsBeginning : {Reg : Type 0} → Run Reg → List ℕ → Type 0
IsBeginning r output = (left : List ℕ) × (written r ≡ output ++ left)

-- status 0 shows the whole run of the parsed text, status 1 a beginning of it; a text that is refused shows nothing
abbrev pub ShowsAnswer : {Reg F T B : Type 0} → (List (NodeShape F T B) → Run Reg) → PageAnswer F T B → List ℕ → ℕ → Type 0
ShowsAnswer run_of (Ok nodes) output status =
    ((status ≡ 0) × IsWhole (run_of nodes) output) ⊎ ((status ≡ 1) × IsBeginning (run_of nodes) output)
ShowsAnswer run_of (Err refusal) output status = (output ≡ []) × (status ≡ 1)

-- nothing is shown: a file can't be read as what it should be, or memory ran out
abbrev pub ShowsNothing : List ℕ → ℕ → Type 0
ShowsNothing output status = (output ≡ []) × ((status ≡ 3) ⊎ (status ≡ 1))

-- a text in a language over the globals, with a store of the partials
abbrev pub ShowsPage : {Reg F T P L B Q : Type 0} → Settings Reg F T P B Q → Lang F T L B → PageOptions → List ℕ → Names → Option Texts
    → List ℕ → ℕ → Type 0
ShowsPage {F = F} {T = T} {B = B} s l options text globals partials output status =
    (answer : PageAnswer F T B) → Reads l text answer → (found : Option (Found F T B)) → IsFoundIn l partials found
    → ShowsAnswer (page_run s options globals found) answer output status

-- the template's text, in the standard language or in the other one
abbrev pub ShowsIn : Bool → PageOptions → List ℕ → Names → Option Texts → List ℕ → ℕ → Type 0
ShowsIn false options text globals partials output status =
    ShowsPage plain_setting plain_language options text globals partials output status
ShowsIn true options text globals partials output status =
    ShowsPage standard_setting standard_language options text globals partials output status

abbrev pub ShowsText : Options → List ℕ → Names → Option Texts → List ℕ → ℕ → Type 0
ShowsText options text globals partials output status = ShowsIn options.standard (page_options options) text globals partials output status

-- what a command shows, by the files at its paths
abbrev pub ShowsCommand : Options → Option (List ℕ) → List (List ℕ) → (List ℕ → Option (List ℕ)) → (Bool → List ℕ → Option (List (List ℕ)))
    → List ℕ → ℕ → Type 0
ShowsCommand options ending paths files folders output status =
    Gathers options.decimals paths ending (known_in files) (listed_in folders) (ShowsNothing output status)
    (λ text globals partials. ShowsText options text globals partials output status)

-- a page that goes to the output leaves all files as they are; one that goes to a file shows nothing
abbrev pub ShowsPlaced : Asked → Option (List ℕ) → (List ℕ → Option (List ℕ)) → (Bool → List ℕ → Option (List (List ℕ)))
    → (List ℕ → Option (List ℕ)) → List ℕ → ℕ → Type 0
ShowsPlaced asked None files folders left output status =
    Same (known_in files) (known_in left) × ShowsCommand asked.choices.options asked.choices.ending asked.paths files folders output status
ShowsPlaced asked (Some place) files folders left output status =
    (output ≡ []) × WritesAsked asked place (known_in files) (listed_in folders) (known_in left) status

-- what the words show, by the files, and which files there are then
abbrev pub Shows : List (List ℕ) → (List ℕ → Option (List ℕ)) → (Bool → List ℕ → Option (List (List ℕ))) → (List ℕ → Option (List ℕ))
    → List ℕ → ℕ → Type 0
Shows words files folders left output status =
    MatchOption (command_of words) ((output ≡ []) × WritesOthers (pages_of words) (known_in files) (listed_in folders)
    (known_in left) status) (λ asked. ShowsPlaced asked asked.choices.output files folders left output status)
