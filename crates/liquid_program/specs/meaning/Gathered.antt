-- What follows from a command, by the files that it names. They are read in the order in which they are listed here,
-- and each is turned into what it means before the next is read. If one can't be, the result is `stop`, and otherwise
-- what `next` says about what was read. If nothing is known of a file or a folder, nothing is said.
use Rattle.std.specs.Prelude.{ℕ, ◌-◌, List, [], ◌∷◌, ◌++◌, length, take, Bool, Option, None, Some, is_some, Result, Ok, Err, IsUtf8}
use Rattle.std.specs.Prelude.{codes, nat_eq, ⊤, if◌then◌else◌}
use Rattle.std.specs.List.{ends_with}
use Rattle.std.specs.Option.{option_map_or, unwrap_or}
use Rattle.std.specs.FinMap.{empty, insert, keys}
use Rattle.liquid_error.specs.meaning.Refusal.{Refusal}
use Rattle.liquid_value.specs.meaning.Tree.{Members}
use Rattle.liquid_runtime.specs.meaning.Maps.{NameMap, Names}
use Rattle.liquid_partials.specs.meaning.Sources.{Texts}
use Rattle.liquid_pages.specs.meaning.Globals.{global_names, json_object}

-- a file that exists and is UTF-8 is its text
abbrev pub WithText : Option (Option (List ℕ)) → Type 0 → (List ℕ → Type 0) → Type 0
WithText None stop next = ⊤
WithText (Some None) stop next = stop
WithText (Some (Some bytes)) stop next = (IsUtf8 bytes → next bytes) × (¬ (IsUtf8 bytes) → stop)

-- JSON that is an object of values is its names
abbrev pub WithGlobals : Option (Result Members Refusal) → Type 0 → (Names → Type 0) → Type 0
WithGlobals None stop next = stop
WithGlobals (Some (Err refusal)) stop next = stop
WithGlobals (Some (Ok members)) stop next = next (global_names members)

-- the name of a partial, by that of its file and the ending that partials have, if not all files are partials: the part
-- before the ending, and none for a file with another ending
abbrev pub stem_of : Option (List ℕ) → List ℕ → Option (List ℕ)
stem_of None name = Some name
stem_of (Some ending) name = if ends_with nat_eq name ending then Some (take (length name - length ending) name) else None

-- the partials' names, each put into a set
abbrev pub names_into : Option (List ℕ) → NameMap (Unit {0}) → List (List ℕ) → NameMap (Unit {0})
names_into ending found [] = found
names_into ending found (name ∷ names) = names_into ending (option_map_or (λ stem. insert found stem tt) (stem_of ending name) found) names

-- the partials' names in byte order, each once
abbrev pub in_order : Option (List ℕ) → List (List ℕ) → List (List ℕ)
in_order ending names = keys (names_into ending empty names)

-- `FOLDER/NAME`, and then the ending
abbrev pub path_in : List ℕ → List ℕ → List ℕ → List ℕ
path_in folder ending name = folder ++ (codes "/" ++ (name ++ ending))

-- the partials of these names in a folder, each the text of its file
abbrev pub WithFiles : (List ℕ → Option (Option (List ℕ))) → List ℕ → List ℕ → List (List ℕ) → Texts → Type 0 → (Texts → Type 0) → Type 0
WithFiles known folder ending [] texts stop next = next texts
WithFiles known folder ending (name ∷ names) texts stop next =
    WithText (known (path_in folder ending name)) stop (λ text. WithFiles known folder ending names (insert texts name text) stop next)

-- a folder that exists is the names of its files
abbrev pub WithNames : Option (Option (List (List ℕ))) → Type 0 → (List (List ℕ) → Type 0) → Type 0
WithNames None stop next = ⊤
WithNames (Some None) stop next = stop
WithNames (Some (Some names)) stop next = next names

-- all partials of a folder, in byte order of their names
abbrev pub WithFolder : (List ℕ → Option (Option (List ℕ))) → List ℕ → Option (List ℕ) → Option (Option (List (List ℕ))) → Type 0
    → (Texts → Type 0) → Type 0
WithFolder known folder ending names stop next =
    WithNames names stop (λ listed. WithFiles known folder (unwrap_or ending []) (in_order ending listed) empty stop next)

-- without a folder there are no partials. Where partials have an ending, those in subfolders are among them
abbrev pub WithPartials : (List ℕ → Option (Option (List ℕ))) → (Bool → List ℕ → Option (Option (List (List ℕ)))) → Option (List ℕ)
    → List (List ℕ) → Type 0 → (Option Texts → Type 0) → Type 0
WithPartials known listed ending [] stop next = next None
WithPartials known listed ending (folder ∷ words) stop next =
    WithFolder known folder ending (listed (is_some ending) folder) stop (λ texts. next (Some texts))

-- the template, then its globals, with decimals or without, and then its partials
abbrev pub Gathers : Bool → List (List ℕ) → Option (List ℕ) → (List ℕ → Option (Option (List ℕ)))
    → (Bool → List ℕ → Option (Option (List (List ℕ)))) → Type 0 → (List ℕ → Names → Option Texts → Type 0) → Type 0
Gathers decimals (template ∷ globals ∷ rest) ending known listed stop next =
    WithText (known template) stop (λ text.
    WithText (known globals) stop (λ json.
    WithGlobals (json_object decimals json) stop (λ names.
    WithPartials known listed ending rest stop (λ partials. next text names partials))))
Gathers decimals other ending known listed stop next = ⊤

-- the globals of several pages, then their partials
abbrev pub GathersGlobals : Bool → List ℕ → List (List ℕ) → Option (List ℕ) → (List ℕ → Option (Option (List ℕ)))
    → (Bool → List ℕ → Option (Option (List (List ℕ)))) → Type 0 → (Names → Option Texts → Type 0) → Type 0
GathersGlobals decimals globals rest ending known listed stop next =
    WithText (known globals) stop (λ json.
    WithGlobals (json_object decimals json) stop (λ names.
    WithPartials known listed ending rest stop (λ partials. next names partials)))
