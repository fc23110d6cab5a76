-- The names that pages see, by the words for data and for single texts.
use Rattle.std.specs.Prelude.{◌≡◌, ◌-◌, ◌==◌, ℕ, List, [], ◌∷◌, Bool, Option, None, Some, codes, length, option_map, take, if◌then◌else◌}
use Rattle.std.specs.Borrow.{Bor}
use Rattle.std.specs.List.{before_first, after_first, position_or_len}
use Rattle.std.specs.Option.{unwrap_or}
use Rattle.std.specs.Path.{path_file_name}
use Rattle.std.specs.Str.{bytes_eq}
use Rattle.liquid_value.specs.meaning.Tree.{Members, object, member, no_members}
use Rattle.page_site.specs.declared.data_files.read.Format.{Format}
use Rattle.page_site.specs.declared.data_files.read.Format.TheVariants.{Csv, Json, Toml}
use Rattle.page_site.specs.meaning.data_files.Document.{DataGiven, ends_in, format_of}
use Rattle.page_site.specs.meaning.data_files.Merged.{assigned, is_equals, merged}

-- the text that is given, if one is
abbrev pub text_given : Option (Bor (List ℕ)) → Option (List ℕ)
text_given = option_map (λ text. text.now)

-- a word for data is a path, or `NAME=PATH`
abbrev pub is_path : List ℕ → Bool
is_path word = position_or_len is_equals word == length word

-- the name that the data goes under, if the word has one
abbrev pub name_in : List ℕ → Option (List ℕ)
name_in word = if is_path word then None else Some (before_first is_equals word)

-- a path, where `-` is standard input
abbrev pub path_named : List ℕ → List ℕ
path_named word = if bytes_eq word (codes "-") then codes "/dev/stdin" else word

abbrev pub path_in : List ℕ → List ℕ
path_in word = path_named (if is_path word then word else after_first is_equals word)

-- standard input is JSON
abbrev pub format_at : List ℕ → Option Format
format_at path = if bytes_eq path (codes "/dev/stdin") then Some Json else format_of path

-- the name of the list of a file of CSV: that of the file, without its ending
abbrev pub list_name : List ℕ → List ℕ
list_name name = if ends_in name (codes ".csv") then take (length name - 4) name else name

abbrev pub list_name_at : List ℕ → List ℕ
list_name_at path = list_name (unwrap_or (path_file_name path) [])

-- the name of the list that a word names: that of the word, or of the file
abbrev pub list_name_in : List ℕ → List ℕ
list_name_in word = unwrap_or (name_in word) (list_name_at (path_in word))

-- the name that members go under: those of CSV are a list that has its name
abbrev pub name_over : Format → Option (List ℕ) → Option (List ℕ)
name_over Csv name = None
name_over Json name = name
name_over Toml name = name

-- members under a name, if there is one
abbrev pub under : Option (List ℕ) → Members → Members
under None ms = ms
under (Some name) ms = member name (object ms) no_members

module _ (files : List ℕ → Option (List ℕ)) where
  -- the data that a word names is put over what is there
  pub record ReadsOver (word : List ℕ) (before after : Members) : Type 0 where
    pub bytes : List ℕ
    pub format : Format
    pub given : Members
    pub is_there : files (path_in word) ≡ Some bytes
    pub has_format : format_at (path_in word) ≡ Some format
    pub is_read : DataGiven format (list_name_in word) bytes given
    pub is_after : after ≡ merged before (under (name_over format (name_in word)) given)

  -- the words' data, one over another
  abbrev pub ReadsAll : List (List ℕ) → Members → Members → Type 0
  ReadsAll [] before after = after ≡ before
  ReadsAll (word ∷ words) before after = (between : Members) × ReadsOver word before between × ReadsAll words between after

-- the words' texts, one after another
abbrev pub SetsAll : List (List ℕ) → Members → Members → Type 0
SetsAll [] before after = after ≡ before
SetsAll (word ∷ words) before after = (between : Members) × (assigned word before ≡ Some between) × SetsAll words between after
