-- The files of a site, as tags find them.
use Rattle.std.specs.Prelude.{
  ℕ,
  Bool,
  not,
  ◌||◌,
  ◌&&◌,
  ◌==◌,
  nat_eq,
  nat_lt,
  List,
  [],
  ◌∷◌,
  ◌++◌,
  Option,
  Some,
  None,
  bytes_eq,
  codes,
  drop,
  length,
  string_bytes,
  option_and_then,
  if◌then◌else◌,
}
use Rattle.std.specs.List.{list_all, starts_with}
use Rattle.std.specs.Option.{option_or, unwrap_or}
use Rattle.std.specs.Str.{byte}
use Rattle.liquid_value.specs.meaning.Parts.{as_array}
use Rattle.liquid_value.specs.meaning.Tree.{Items, Tree}
use Rattle.liquid_tags.specs.meaning.Series.{trees}
use Rattle.liquid_jekyll.specs.meaning.url.Cuts.{cut_last}
use Rattle.jekyll_tags.specs.declared.files.Wanted.{Wanted}
use Rattle.jekyll_tags.specs.declared.files.Wanted.TheVariants.{File, Post}
use Rattle.jekyll_tags.specs.meaning.Seen.{member, text_member}

abbrev pub is_no_point : ℕ → Bool
is_no_point b = not (b == byte ".")

-- whether a path is this text, and after it an ending without a point
abbrev pub is_ending : List ℕ → Bool
is_ending text = nat_lt 0 (length text) && list_all is_no_point text

abbrev pub has_ending : List ℕ → List ℕ → Bool
has_ending front path = starts_with nat_eq path front && is_ending (drop (length front) path)

abbrev pub fits : Wanted → List ℕ → Bool
fits (File name slashed) path = bytes_eq path (string_bytes name) || bytes_eq path (string_bytes slashed)
fits (Post front other) path = has_ending (string_bytes front) path || has_ending (string_bytes other) path

-- a file of this name has it as its path, perhaps after a slash
abbrev pub is_file : List ℕ → List ℕ → Bool
is_file name path = bytes_eq path name || bytes_eq path (byte "/" ∷ name)

-- the text without a slash at its start
abbrev pub without_slash : List ℕ → List ℕ
without_slash text = if starts_with nat_eq text (codes "/") then drop 1 text else text

-- the path of a post of this name, without its ending, in `_posts` in the folder of the name
abbrev pub around : List ℕ → Option (List ℕ × List ℕ) → List ℕ
around name None = codes "_posts/" ++ (name ++ codes ".")
around name (Some (folder, file)) = folder ++ (codes "/_posts/" ++ (file ++ codes "."))

-- a post is in the folder of its name in `_posts`, or in `_posts` in that folder
abbrev pub is_post_named : List ℕ → List ℕ → Bool
is_post_named name path =
    has_ending (codes "_posts/" ++ (name ++ codes ".")) path || has_ending (around name (cut_last (codes "/") name)) path

abbrev pub is_post : List ℕ → List ℕ → Bool
is_post name = is_post_named (without_slash name)

-- a list of the site
abbrev pub files_in : List ℕ → Tree → Option Items
files_in list site = option_and_then as_array (member list site)

module _ (fits : List ℕ → Bool) where
  -- the URL of a file whose path fits, or its path if it has no URL
  abbrev pub url_at : Tree → List ℕ → Option (List ℕ)
  url_at file path = if fits path then Some (unwrap_or (text_member (codes "url") file) path) else None

  abbrev pub url_if : Tree → Option (List ℕ)
  url_if file = option_and_then (url_at file) (text_member (codes "path") file)

  -- the URL of the first file whose path fits, and of the last one
  abbrev pub first_url : List Tree → Option (List ℕ)
  first_url [] = None
  first_url (file ∷ files) = option_or (url_if file) (first_url files)

  abbrev pub last_url : List Tree → Option (List ℕ)
  last_url [] = None
  last_url (file ∷ files) = option_or (last_url files) (url_if file)

  -- the URL of the first such file in a list of the site
  abbrev pub file_url : List ℕ → Tree → Option (List ℕ)
  file_url list site = option_and_then (λ files. first_url (trees files)) (files_in list site)

  -- that of the oldest such post; the newest one is the first in the list
  abbrev pub post_url : Tree → Option (List ℕ)
  post_url site = option_and_then (λ files. last_url (trees files)) (files_in (codes "posts") site)
