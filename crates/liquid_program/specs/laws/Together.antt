-- What a page gathers, and what is requested for it, are the same.
use Rattle.std.specs.Prelude.{◌≡◌, ℕ, List, Bool, true, Option, None, is_some}
use Rattle.liquid_program.specs.meaning.Command.{option_words}
use Rattle.liquid_program.specs.meaning.PagesCommand.{AskedPages}
use Rattle.liquid_files.specs.meaning.Files.{known_in, listed_in}
use Rattle.liquid_program.specs.meaning.Gathered.{Gathers, GathersGlobals}
use Rattle.liquid_program.specs.meaning.Requests.{Step, command_steps, pages_steps, first_trouble}

-- there is trouble at one of these steps
abbrev pub IsTrouble : List Step → Type 0
IsTrouble steps = is_some (first_trouble steps) ≡ true

-- there is none
abbrev pub IsClear : List Step → Type 0
IsClear steps = first_trouble steps ≡ None

module _ (files : List ℕ → Option (List ℕ)) (folders : Bool → List ℕ → Option (List (List ℕ))) where
  -- a page is gathered if there is no trouble at any of its requests, and stops otherwise
  abbrev pub PageTogether : Type 0
  PageTogether =
      (decimals : Bool) (paths : List (List ℕ)) (ending : Option (List ℕ))
      → let steps = command_steps files folders decimals paths ending in
      Gathers decimals paths ending (known_in files) (listed_in folders) (IsTrouble steps) (λ text names partials. IsClear steps)

  -- so are the globals and the partials of several pages
  abbrev pub PagesTogether : Type 0
  PagesTogether =
      (pages : AskedPages)
      → GathersGlobals pages.options.decimals pages.globals (option_words pages.partials) pages.ending (known_in files) (listed_in folders)
      (IsTrouble (pages_steps files folders pages)) (λ names partials. IsClear (pages_steps files folders pages))

-- whatever the files and the folders are
abbrev pub GatheredAsRequested : Type 0
GatheredAsRequested =
    (files : List ℕ → Option (List ℕ)) (folders : Bool → List ℕ → Option (List (List ℕ)))
    → PageTogether files folders × PagesTogether files folders
