-- The files of a site, where each goes, and what is written there.
use Rattle.std.specs.Prelude.{
  ◌≡◌,
  ◌≢◌,
  ◌⊎◌,
  ℕ,
  ◌-◌,
  List,
  [],
  ◌∷◌,
  ◌++◌,
  Bool,
  true,
  false,
  Option,
  Some,
  None,
  IsUtf8,
  IfSome,
  ⊤,
  length,
  map,
  take,
  drop,
  codes,
  nat_eq,
  ◌||◌,
  ◌==◌,
  string_bytes,
  if◌then◌else◌,
}
use Rattle.std.specs.List.{starts_with, ends_with}
use Rattle.std.specs.Option.{unwrap_or}
use Rattle.std.specs.Path.{path_file_name}
use Rattle.liquid_value.specs.meaning.Tree.{Members}
use Rattle.liquid_files.specs.meaning.Files.{Replaces, Same}
use Rattle.page_site.specs.declared.items.Item.{Item}
use Rattle.page_site.specs.declared.fault.SiteFault.{SiteFault}
use Rattle.page_site.specs.declared.fault.SiteFault.TheVariants.{Unreadable, NoText, Page, Unwritable, OwnFile}
use Rattle.page_site.specs.meaning.Answers.{Answers}
use Rattle.page_site.specs.meaning.Faults.{trouble_of}
use Rattle.page_site.specs.meaning.Layouts.{HasTrouble, IsPage}

-- a file, where its page or its copy goes, and whether it is a template whatever its name
pub record ItemShape : Type 0 where
  pub source : List ℕ
  pub target : List ℕ
  pub is_template : Bool

abbrev pub item_of : Item → ItemShape
item_of item = record { source = string_bytes item.source; target = string_bytes item.target; is_template = item.is_template }

-- the name of a page, by that of its template
abbrev pub page_name : List ℕ → List ℕ
page_name name = if ends_with nat_eq name (codes ".liquid") then take (length name - 7) name else name

-- the path of a file in a folder
abbrev pub file_in : List ℕ → List ℕ → List ℕ
file_in folder name = folder ++ (codes "/" ++ name)

-- a file of a folder, which goes to its own path below the output
abbrev pub item_in : List ℕ → List ℕ → List ℕ → ItemShape
item_in output folder name =
    record { source = file_in folder name; target = output ++ page_name name; is_template = false }

-- what a word names: the files of a folder, or else the template at the path
abbrev pub items_at : List ℕ → List ℕ → Option (List (List ℕ)) → List ItemShape
items_at output word None =
    record { source = word; target = output ++ page_name (unwrap_or (path_file_name word) []); is_template = true } ∷ []
items_at output word (Some names) = map (item_in output word) names

-- the bytes after a byte order mark, if there is one
abbrev pub without_mark : List ℕ → List ℕ
without_mark bytes = if starts_with nat_eq bytes (239 ∷ 187 ∷ 191 ∷ []) then drop 3 bytes else bytes

-- whether a text begins as front matter does
abbrev pub has_front : List ℕ → Bool
has_front bytes =
    starts_with nat_eq (without_mark bytes) (codes "---\n") || starts_with nat_eq (without_mark bytes) (codes "---\r")
    || (starts_with nat_eq (without_mark bytes) (codes "+++\n") || starts_with nat_eq (without_mark bytes) (codes "+++\r"))

-- whether a file becomes a page
abbrev pub is_page : ItemShape → List ℕ → Bool
is_page item bytes = item.is_template || (ends_with nat_eq item.source (codes ".liquid") || has_front bytes)

-- a file has these bytes, if anything is known of it
abbrev pub MayBe : Option (Option (List ℕ)) → List ℕ → Type 0
MayBe None bytes = ⊤
MayBe (Some file) bytes = file ≡ Some bytes

-- a file can't be read, if anything is known of it
abbrev pub MayFail : Option (Option (List ℕ)) → Type 0
MayFail None = ⊤
MayFail (Some file) = file ≡ None

-- a file can't be read as text, or memory ran out
abbrev pub IsBlank : SiteFault → Option (Option (List ℕ)) → Type 0
IsBlank (Unreadable path) known = MayFail known
IsBlank (NoText path) known = (bytes : List ℕ) × MayBe known bytes × ¬ (IsUtf8 bytes)
IsBlank (Page fault) known = IfSome (trouble_of fault) (λ trouble. ⊥)
IsBlank (Unwritable path) known = ⊥
IsBlank (OwnFile path) known = ⊥

module _ (answers : Answers) (partials : List ℕ → Option (List ℕ)) (names : Members) where
  -- what a file becomes: its page, or a copy
  abbrev pub Becomes : Bool → List ℕ → List ℕ → Type 0
  Becomes true bytes made = IsPage answers partials names bytes made
  Becomes false bytes made = made ≡ bytes

  abbrev pub IsMade : (List ℕ → Option (Option (List ℕ))) → ItemShape → List ℕ → Type 0
  IsMade known item made = (bytes : List ℕ) × MayBe (known item.source) bytes × Becomes (is_page item bytes) bytes made

  -- why a file becomes nothing: it can't be read, is no text, or its page has trouble
  abbrev pub IsUnmade : (List ℕ → Option (Option (List ℕ))) → ItemShape → SiteFault → Type 0
  IsUnmade known item (Unreadable path) = MayFail (known item.source)
  IsUnmade known item (NoText path) =
      (bytes : List ℕ) × MayBe (known item.source) bytes × (is_page item bytes ≡ true) × ¬ (IsUtf8 bytes)
  IsUnmade known item (Page fault) = IfSome (trouble_of fault) (λ trouble. (bytes : List ℕ) × MayBe (known item.source) bytes
      × (is_page item bytes ≡ true) × HasTrouble answers partials names bytes trouble)
  IsUnmade known item (Unwritable path) = ⊥
  IsUnmade known item (OwnFile path) = ⊥

  -- what a file becomes is at its target, and every other file is as it was; or all files are as they were
  abbrev pub WritesItem : ItemShape → (List ℕ → Option (Option (List ℕ))) → (List ℕ → Option (Option (List ℕ))) → ℕ → Type 0
  WritesItem item known left status =
      ((status ≡ 0) × ((made : List ℕ) × IsMade known item made × Replaces known left item.target made))
      ⊎ ((status ≢ 0) × Same known left)

  -- the files of a site, one after another; the status is the first that isn't 0
  abbrev pub WritesItems : List ItemShape → (List ℕ → Option (Option (List ℕ))) → (List ℕ → Option (Option (List ℕ))) → ℕ → ℕ → Type 0
  WritesItems [] known left status result = Same known left × (result ≡ status)
  WritesItems (item ∷ items) known left status result =
      (between : List ℕ → Option (Option (List ℕ))) × (one : ℕ) × WritesItem item known between one
      × WritesItems items between left (if status == 0 then one else status) result
