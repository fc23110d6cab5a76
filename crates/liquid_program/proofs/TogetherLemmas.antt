-- What a page gathers stops where its requests have trouble.
use Rattle.std.proofs.Common.{
  ◌≡◌,
  ◌∙◌,
  ℕ,
  Bool,
  true,
  false,
  List,
  [],
  ◌∷◌,
  ◌++◌,
  Option,
  None,
  Some,
  Result,
  Ok,
  Err,
  map,
  refl,
  sym,
  ap,
  true≢false,
  subst,
}
use Rattle.std.proofs.lemmas.Str.{IsUtf8-from_is_utf8, is_utf8-from_IsUtf8}
use Rattle.std.specs.Prelude.{is_some, if◌then◌else◌}
use Rattle.std.specs.Str.{is_utf8}
use Rattle.std.specs.FinMap.{empty, insert}
use Rattle.std.specs.Option.{option_map_or, unwrap_or}
use Rattle.liquid_error.specs.meaning.Refusal.{Refusal}
use Rattle.liquid_value.specs.meaning.Tree.{Members}
use Rattle.liquid_partials.specs.meaning.Sources.{Texts}
use Rattle.liquid_pages.specs.meaning.Globals.{json_object}
use Rattle.liquid_program.specs.meaning.Command.{option_words}
use Rattle.liquid_files.specs.meaning.Files.{known_in, listed_in}
use Rattle.liquid_program.specs.meaning.Gathered.{
  GathersGlobals,
  WithFiles,
  WithFolder,
  WithGlobals,
  WithPartials,
  WithText,
  in_order,
  path_in,
}
use Rattle.liquid_program.specs.meaning.PagesCommand.{AskedPages}
use Rattle.liquid_program.specs.meaning.Requests.{
  Step,
  Trouble,
  bad_json,
  no_globals,
  unreadable,
  file_steps,
  folder_steps,
  first_trouble,
  globals_trouble,
  object_trouble,
  partials_steps,
  template_step,
  text_trouble,
}
use Rattle.liquid_program.specs.laws.Together.{GatheredAsRequested, PageTogether, PagesTogether}

-- whatever trouble there is, one of these holds: `Stop` if there is some, and `Next` if there is none
module _ (Stop : Option Trouble → Type 0) (stops : (t : Trouble) → Stop (Some t)) where
  bytes_go : (Next : Option Trouble → List ℕ → Type 0) (path bytes : List ℕ) (b : Bool) → is_utf8 bytes ≡ b → Next None bytes
      → WithText (Some (Some bytes)) (Stop (if b then None else Some (unreadable path))) (Next (if b then None else Some (unreadable path)))
  bytes_go Next path bytes true is next = (λ utf8. next, λ not. absurd (not (IsUtf8-from_is_utf8 bytes is)))
  bytes_go Next path bytes false is next =
      (λ utf8. absurd (true≢false (sym (is_utf8-from_IsUtf8 bytes utf8) ∙ is)), λ not. stops (unreadable path))

  text_goes : (Next : Option Trouble → List ℕ → Type 0) (path : List ℕ) (file : Option (List ℕ)) → ((bytes : List ℕ) → Next None bytes)
      → WithText (Some file) (Stop (text_trouble path file)) (Next (text_trouble path file))
  text_goes Next path None next = stops (unreadable path)
  text_goes Next path (Some bytes) next = bytes_go Next path bytes (is_utf8 bytes) refl (next bytes)

  module _ (Next : Option Trouble → Type 0) (next : Next None) where
    object_goes : (path : List ℕ) (object : Option (Result Members Refusal))
        → WithGlobals object (Stop (object_trouble path object)) (λ names. Next (object_trouble path object))
    object_goes path None = stops (bad_json path)
    object_goes path (Some (Err refusal)) = stops (no_globals refusal)
    object_goes path (Some (Ok members)) = next

    abbrev troubled : Bool → List ℕ → List ℕ → Bool → Option Trouble
    troubled decimals path bytes b =
        option_map_or Some (if b then None else Some (unreadable path)) (object_trouble path (json_object decimals bytes))

    json_goes : (decimals : Bool) (path bytes : List ℕ) (b : Bool) → is_utf8 bytes ≡ b
        → WithText (Some (Some bytes)) (Stop (troubled decimals path bytes b))
        (λ json. WithGlobals (json_object decimals json) (Stop (troubled decimals path bytes b))
        (λ names. Next (troubled decimals path bytes b)))
    json_goes decimals path bytes true is =
        (λ utf8. object_goes path (json_object decimals bytes), λ not. absurd (not (IsUtf8-from_is_utf8 bytes is)))
    json_goes decimals path bytes false is =
        (λ utf8. absurd (true≢false (sym (is_utf8-from_IsUtf8 bytes utf8) ∙ is)), λ not. stops (unreadable path))

    globals_go : (decimals : Bool) (path : List ℕ) (file : Option (List ℕ))
        → WithText (Some file) (Stop (globals_trouble decimals path file))
        (λ json. WithGlobals (json_object decimals json) (Stop (globals_trouble decimals path file))
        (λ names. Next (globals_trouble decimals path file)))
    globals_go decimals path None = stops (unreadable path)
    globals_go decimals path (Some bytes) = json_goes decimals path bytes (is_utf8 bytes) refl

module _ (files : List ℕ → Option (List ℕ)) (folders : Bool → List ℕ → Option (List (List ℕ))) (Stop : Option Trouble → Type 0)
    (stops : (t : Trouble) → Stop (Some t)) (Next : Option Trouble → Type 0) (next : Next None) where
  files_go : (folder ending : List ℕ) (names : List (List ℕ)) (texts : Texts)
      → WithFiles (known_in files) folder ending names texts (Stop (first_trouble (file_steps files folder ending names)))
      (λ found. Next (first_trouble (file_steps files folder ending names)))
  files_go folder ending [] texts = next
  files_go folder ending (name ∷ names) texts =
      let rest = first_trouble (file_steps files folder ending names) in
      text_goes (λ o. Stop (option_map_or Some o rest)) stops
      (λ o text. WithFiles (known_in files) folder ending names (insert texts name text) (Stop (option_map_or Some o rest))
      (λ found. Next (option_map_or Some o rest)))
      (path_in folder ending name) (files (path_in folder ending name))
      (λ text. files_go folder ending names (insert texts name text))

  folder_goes : (folder : List ℕ) (ending : Option (List ℕ)) (names : Option (List (List ℕ)))
      → WithFolder (known_in files) folder ending (Some names) (Stop (first_trouble (folder_steps files folder ending names)))
      (λ found. Next (first_trouble (folder_steps files folder ending names)))
  folder_goes folder ending None = stops (unreadable folder)
  folder_goes folder ending (Some names) = files_go folder (unwrap_or ending []) (in_order ending names) empty

  partials_go : (words : List (List ℕ)) (ending : Option (List ℕ))
      → WithPartials (known_in files) (listed_in folders) ending words (Stop (first_trouble (partials_steps files folders words ending)))
      (λ partials. Next (first_trouble (partials_steps files folders words ending)))
  partials_go [] ending = next
  partials_go (folder ∷ words) ending = folder_goes folder ending (folders (is_some ending) folder)

-- templates have no trouble of their own
no_trouble : (templates : List (List ℕ)) (steps : List Step)
    → first_trouble (steps ++ map template_step templates) ≡ first_trouble steps
no_trouble [] [] = refl
no_trouble (template ∷ templates) [] = no_trouble templates []
no_trouble templates (step ∷ steps) = ap (option_map_or Some step.trouble) (no_trouble templates steps)

abbrev IsSome : Option Trouble → Type 0
IsSome o = is_some o ≡ true

abbrev IsNone : Option Trouble → Type 0
IsNone o = o ≡ None

module _ (files : List ℕ → Option (List ℕ)) (folders : Bool → List ℕ → Option (List (List ℕ))) where
  page_together : PageTogether files folders
  page_together decimals [] ending = tt
  page_together decimals (template ∷ []) ending = tt
  page_together decimals (template ∷ globals ∷ words) ending =
      let partials = first_trouble (partials_steps files folders words ending) in
      let rest = option_map_or Some (globals_trouble decimals globals (files globals)) partials in
      text_goes (λ o. IsSome (option_map_or Some o rest)) (λ t. refl)
      (λ o text. WithText (Some (files globals)) (IsSome (option_map_or Some o rest)) (λ json. WithGlobals (json_object decimals json)
      (IsSome (option_map_or Some o rest)) (λ names. WithPartials (known_in files) (listed_in folders) ending words
      (IsSome (option_map_or Some o rest)) (λ found. IsNone (option_map_or Some o rest)))))
      template (files template)
      (λ text. globals_go (λ o. IsSome (option_map_or Some o partials)) (λ t. refl)
      (λ o. WithPartials (known_in files) (listed_in folders) ending words (IsSome (option_map_or Some o partials))
      (λ found. IsNone (option_map_or Some o partials)))
      (partials_go files folders IsSome (λ t. refl) IsNone refl words ending) decimals globals (files globals))

  abbrev OfPages : AskedPages → Option Trouble → Type 0
  OfPages pages trouble =
      GathersGlobals pages.options.decimals pages.globals (option_words pages.partials) pages.ending (known_in files) (listed_in folders)
      (IsSome trouble) (λ names partials. IsNone trouble)

  pages_together : PagesTogether files folders
  pages_together pages =
      let words = option_words pages.partials in
      let partials = first_trouble (partials_steps files folders words pages.ending) in
      let trouble = globals_trouble pages.options.decimals pages.globals (files pages.globals) in
      subst (λ o. OfPages pages (option_map_or Some trouble o))
      (sym (no_trouble pages.templates (partials_steps files folders words pages.ending)))
      (globals_go (λ o. IsSome (option_map_or Some o partials)) (λ t. refl)
      (λ o. WithPartials (known_in files) (listed_in folders) pages.ending words (IsSome (option_map_or Some o partials))
      (λ found. IsNone (option_map_or Some o partials)))
      (partials_go files folders IsSome (λ t. refl) IsNone refl words pages.ending) pages.options.decimals pages.globals
      (files pages.globals))

pub gathered_as_requested : GatheredAsRequested
gathered_as_requested files folders = (page_together files folders, pages_together files folders)
