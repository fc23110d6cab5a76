-- What files in memory and lists of folders have at a path.
use Rattle.std.specs.Prelude.{String, ℕ, Bool, true, false, List, Option, map, string_bytes, option_map}
use Rattle.std.specs.BTreeMap.{BTreeMap, get_by_text}
use Rattle.std.specs.Global.{Vec}
use Rattle.std.specs.declared.alloc.Global.{Global}
use Rattle.liquid_files.specs.declared.in_memory.InMemoryFolder.{InMemoryFolder}

-- the bytes of the file at a path
abbrev pub bytes_at : InMemoryFolder → List ℕ → Option (List ℕ)
bytes_at folder path = option_map (λ v. v.items) (get_by_text folder.files path)

-- the list at a path
abbrev pub list_at : BTreeMap (String Global) (Vec (String Global)) → List ℕ → Option (List (List ℕ))
list_at lists path = option_map (λ v. map string_bytes v.items) (get_by_text lists path)

-- of two kinds of lists the one that is asked for, at a path
abbrev pub lists_at : BTreeMap (String Global) (Vec (String Global)) → BTreeMap (String Global) (Vec (String Global)) → Bool → List ℕ
    → Option (List (List ℕ))
lists_at folders trees false path = list_at folders path
lists_at folders trees true path = list_at trees path

-- the names in the folder at a path, or the paths in it and in its subfolders
abbrev pub names_at : InMemoryFolder → Bool → List ℕ → Option (List (List ℕ))
names_at folder = lists_at folder.folders folder.trees
