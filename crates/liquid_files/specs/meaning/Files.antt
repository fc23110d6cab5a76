-- What reading a file or a folder's names returns, and what replacing a file changes, if something is known of it; and
-- which files and folders were requested.
use Rattle.std.specs.Prelude.{◌≡◌, ℕ, List, ◌++◌, Bool, Option, None, Some, Result, Ok, Err, option_map, ⊤, if◌then◌else◌}
use Rattle.std.specs.Str.{bytes_eq}
use Rattle.liquid_files.specs.declared.folder.Unread.{Unread}
use Rattle.liquid_files.specs.declared.folder.Unread.TheVariants.{Fault, Memory}

-- nothing is known, or the content is known, or it is known that it can't be read; an out-of-memory error says nothing
abbrev pub Reads : {V B : Type 0} → (V → B) → Option (Option B) → Result V Unread → Type 0
Reads of None result = ⊤
Reads of (Some (Some there)) (Ok v) = of v ≡ there
Reads of (Some (Some there)) (Err Fault) = ⊥
Reads of (Some (Some there)) (Err Memory) = ⊤
Reads of (Some None) (Ok v) = ⊥
Reads of (Some None) (Err e) = ⊤

-- what is known of each file is what was known before
abbrev pub Same : (List ℕ → Option (Option (List ℕ))) → (List ℕ → Option (Option (List ℕ))) → Type 0
Same before after = (path : List ℕ) → after path ≡ before path

-- the file at a path has these bytes, and what is known of every other file is what was known before. If nothing is known
-- of a file, nothing is known of it then
abbrev pub Replaces : (List ℕ → Option (Option (List ℕ))) → (List ℕ → Option (Option (List ℕ))) → List ℕ → List ℕ → Type 0
Replaces before after file bytes =
    (path : List ℕ) → after path ≡ (if bytes_eq file path then option_map (λ _. Some bytes) (before path) else before path)

-- all files are known, and all folders
abbrev pub known_in : (List ℕ → Option (List ℕ)) → List ℕ → Option (Option (List ℕ))
known_in files path = Some (files path)

abbrev pub listed_in : (Bool → List ℕ → Option (List (List ℕ))) → Bool → List ℕ → Option (Option (List (List ℕ)))
listed_in folders is_deep path = Some (folders is_deep path)

-- a request of the file at a path, or of the names in the folder at a path; with `true` its subfolders are listed too
pub data Request : Type 0 where
  reading : List ℕ → Request
  listing : Bool → List ℕ → Request

-- all requests so far, in order, if they are known
abbrev pub Requests : Type 0
Requests = Option (List Request)

-- these requests, after those before
abbrev pub also : Requests → List Request → Requests
also before requests = option_map (λ made. made ++ requests) before
