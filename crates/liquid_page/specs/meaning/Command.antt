-- What `liquid page` reads and writes.
use Rattle.std.specs.Prelude.{◌≡◌, ◌≢◌, ◌⊎◌, ℕ, List, [], ◌∷◌, ◌++◌, Bool, true, Option, None, Some, map, flat_map, codes, nat_eq}
use Rattle.std.specs.Prelude.{if◌then◌else◌, ◌&&◌, not}
use Rattle.std.specs.Io.KnownBytes.{Appends}
use Rattle.std.specs.FinMap.{get}
use Rattle.std.specs.List.{ends_with}
use Rattle.std.specs.Option.{option_map_or, unwrap_or}
use Rattle.liquid_value.specs.meaning.Tree.{Members, no_members}
use Rattle.liquid_partials.specs.meaning.Sources.{Texts}
use Rattle.liquid_files.specs.meaning.Files.{Request, known_in, listing, reading}
use Rattle.page_site.specs.meaning.Answers.{Answers}
use Rattle.page_site.specs.meaning.Items.{IsMade, ItemShape, WritesItems, file_in, items_at}
use Rattle.page_site.specs.declared.partials.PartialNames.{PartialNames}
use Rattle.page_site.specs.declared.partials.PartialNames.TheVariants.{WithoutEnding, WholePaths}
use Rattle.page_site.specs.meaning.Partials.{partial_in}
use Rattle.page_site.specs.meaning.Requested.{partial_requests}
use Rattle.liquid_page.specs.meaning.Names.{ReadsAll, SetsAll, path_in, path_named}

-- the words for files: templates, data, texts that are set, the folder of the partials, and where pages go; and whether the
-- templates are as Jekyll's authors write them
pub record Words : Type 0 where
  pub templates : List (List ℕ)
  pub data_words : List (List ℕ)
  pub sets : List (List ℕ)
  pub folder : Option (List ℕ)
  pub output : Option (List ℕ)
  pub is_jekyll : Bool

-- whether a path names a folder, by its end
abbrev pub is_folder : List ℕ → Bool
is_folder path = ends_with nat_eq path (codes "/")

-- what comes before the names of pages in the output, if there is one
abbrev pub output_folder : Option (List ℕ) → List ℕ
output_folder None = []
output_folder (Some output) = if is_folder output then output else output ++ codes "/"

-- the files that a word for templates names
abbrev pub items_for : (Bool → List ℕ → Option (List (List ℕ))) → Option (List ℕ) → List ℕ → List ItemShape
items_for folders output word = items_at (output_folder output) (path_named word) (folders true (path_named word))

-- one template goes to the output itself, unless that is named as a folder
abbrev pub sent_to : List ℕ → ItemShape → ItemShape
sent_to output item = if item.is_template && not (is_folder output) then record item { target = output } else item

abbrev pub at_output : Option (List ℕ) → List ItemShape → List ItemShape
at_output None items = items
at_output (Some output) [] = []
at_output (Some output) (item ∷ []) = sent_to output item ∷ []
at_output (Some output) (item ∷ next ∷ items) = item ∷ next ∷ items

-- the files of these words, and where each goes
abbrev pub page_items : (Bool → List ℕ → Option (List (List ℕ))) → Words → List ItemShape
page_items folders words = at_output words.output (flat_map (items_for folders words.output) words.templates)

-- what pages are made of
pub record Site : Type 0 where
  pub names : Members
  pub partials : List ℕ → Option (List ℕ)
  pub items : List ItemShape

-- the names that the data and the texts of the words give
abbrev pub NamesAre : (List ℕ → Option (List ℕ)) → Words → Members → Type 0
NamesAre files words names = (read : Members) × ReadsAll files words.data_words no_members read × SetsAll words.sets read names

-- what partials are called: as Jekyll's authors call them, by their whole paths
abbrev pub partial_names : Bool → PartialNames
partial_names is_jekyll = if is_jekyll then WholePaths else WithoutEnding

module _ (files : List ℕ → Option (List ℕ)) (folders : Bool → List ℕ → Option (List (List ℕ))) where
  -- the partials of a folder, if there is one
  abbrev pub PartialsAre : PartialNames → Option (List ℕ) → (List ℕ → Option (List ℕ)) → Type 0
  PartialsAre called None partials = (name : List ℕ) → partials name ≡ None
  PartialsAre called (Some folder) partials = (names : List (List ℕ)) × (folders true folder ≡ Some names)
      × ((name : List ℕ) → partials name ≡ partial_in called files folder names name)

  -- what the words give
  pub record IsGiven (words : Words) (site : Site) : Type 0 where
    pub has_names : NamesAre files words site.names
    pub has_partials : PartialsAre (partial_names words.is_jekyll) words.folder site.partials
    pub has_items : site.items ≡ page_items folders words

-- what is read, in order: the data, the partials, the folders of templates, and each file of a page
abbrev pub data_requests : Words → List Request
data_requests words = map (λ word. reading (path_in word)) words.data_words

abbrev pub folder_requests : (Bool → List ℕ → Option (List (List ℕ))) → Option (List ℕ) → List Request
folder_requests folders folder = option_map_or (partial_requests folders) folder []

abbrev pub first_requests : (Bool → List ℕ → Option (List (List ℕ))) → Words → List Request
first_requests folders words =
    data_requests words ++ (folder_requests folders words.folder ++ map (λ word. listing true (path_named word)) words.templates)

abbrev pub page_requests : (Bool → List ℕ → Option (List (List ℕ))) → Words → List Request
page_requests folders words =
    first_requests folders words
    ++ map (λ item. reading item.source) (page_items folders words)

module _ (answers : Answers) (site : Site) (known left : List ℕ → Option (Option (List ℕ))) (before after : Option (List ℕ)) where
  -- the one page is printed, and no file changes. Nothing is printed if there is none
  abbrev pub Prints : ℕ → Type 0
  Prints status =
      (left ≡ known)
      × (((item : ItemShape) × (made : List ℕ) × (site.items ≡ item ∷ []) × IsMade answers site.partials site.names known item made
      × (status ≡ 0 → Appends before after made))
      ⊎ ((status ≢ 0) × (after ≡ before)))

  -- pages are written to their files, and nothing is printed
  abbrev pub Writes : ℕ → Type 0
  Writes status = WritesItems answers site.partials site.names site.items known left 0 status × (after ≡ before)

  abbrev pub Ends : Option (List ℕ) → ℕ → Type 0
  Ends None status = Prints status
  Ends (Some output) status = Writes status

-- nothing is printed or written
abbrev pub Fails : (List ℕ → Option (Option (List ℕ))) → (List ℕ → Option (Option (List ℕ))) → Option (List ℕ) → Option (List ℕ) → ℕ
    → Type 0
Fails known left before after status = (status ≢ 0) × (left ≡ known) × (after ≡ before)

-- the pages that the words name are printed or written over what the words give; or nothing is
abbrev pub Pages : (Texts → Answers) → (List ℕ → Option (List ℕ)) → (Bool → List ℕ → Option (List (List ℕ))) → Words
    → (List ℕ → Option (Option (List ℕ))) → Option (List ℕ) → Option (List ℕ) → ℕ → Type 0
Pages answers files folders words left before after status =
    ((site : Site) × (texts : Texts) × IsGiven files folders words site × ((name : List ℕ) → get texts name ≡ site.partials name)
    × Ends (answers texts) site (known_in files) left before after words.output status)
    ⊎ Fails (known_in files) left before after status
