-- The partials of a folder's files.
use Rattle.std.specs.Prelude.{ℕ, List, [], ◌∷◌, Option, None, if◌then◌else◌}
use Rattle.std.specs.Option.{option_or}
use Rattle.std.specs.Str.{bytes_eq}
use Rattle.page_site.specs.declared.partials.PartialNames.{PartialNames}
use Rattle.page_site.specs.declared.partials.PartialNames.TheVariants.{WithoutEnding, WholePaths}
use Rattle.page_site.specs.meaning.Items.{file_in, page_name}

-- what the partial in a file of this path is called
abbrev pub partial_name : PartialNames → List ℕ → List ℕ
partial_name WithoutEnding path = page_name path
partial_name WholePaths path = path

-- the text of a partial, by the files of these names in a folder. Of two files that are one partial the later counts
abbrev pub partial_in : PartialNames → (List ℕ → Option (List ℕ)) → List ℕ → List (List ℕ) → List ℕ → Option (List ℕ)
partial_in called files folder [] name = None
partial_in called files folder (other ∷ names) name =
    option_or (partial_in called files folder names name)
    (if bytes_eq (partial_name called other) name then files (file_in folder other) else None)
