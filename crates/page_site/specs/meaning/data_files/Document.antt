-- What a text of each format gives, and what its refusals mean.
use Rattle.std.specs.Prelude.{◌≡◌, ⊤, ℕ, List, Bool, ◌==◌, codes, Option, Some, None, Ok, Err, IfSome, if◌then◌else◌}
use Rattle.std.specs.List.{ends_with}
use Rattle.csv.specs.Reading.{strip_bom}
use Rattle.liquid_json.specs.meaning.decimals.Given.{object_read}
use Rattle.liquid_error.specs.meaning.Told.{told}
use Rattle.liquid_value.specs.meaning.Tree.{array, Items, Members, no_members, member}
use Rattle.toml.specs.Data as toml
use Rattle.toml.specs.Parse.{parse_document}
use Rattle.page_site.specs.declared.data_files.fault.DataFault.{DataFault}
use Rattle.page_site.specs.declared.data_files.fault.DataFault.TheVariants as fault
use Rattle.page_site.specs.declared.data_files.read.Format.{Format}
use Rattle.page_site.specs.declared.data_files.read.Format.TheVariants as format
use Rattle.page_site.specs.meaning.data_files.Sheet.{IsPlaced, SheetGiven}
use Rattle.page_site.specs.meaning.data_files.Tables.{MembersGiven, MembersRefused}

-- a path ends in these bytes
abbrev pub ends_in : List ℕ → List ℕ → Bool
ends_in path ending = ends_with (λ a b. a == b) path ending

-- the format of a file by the ending of its path
abbrev pub format_of : List ℕ → Option Format
format_of path =
    if ends_in path (codes ".json") then Some format.Json
    else if ends_in path (codes ".toml") then Some format.Toml
    else if ends_in path (codes ".csv") then Some format.Csv
    else None

-- the members that the table of a text of TOML gives
abbrev pub TableGiven : List ℕ → Members → Type 0
TableGiven source ms = (table : toml.Members) × (parse_document source ≡ Some table) × MembersGiven table no_members ms

-- the members that a text gives. Rows are a list at the name
abbrev pub DataGiven : Format → List ℕ → List ℕ → Members → Type 0
DataGiven format.Json name source ms = object_read (strip_bom source) ≡ Some (Ok ms)
DataGiven format.Toml name source ms = TableGiven source ms
DataGiven format.Csv name source ms = (rows : Items) × SheetGiven source rows × (ms ≡ member name (array rows) no_members)

-- a place says that the text is not JSON, and an error is that of a value
abbrev pub JsonRefused : List ℕ → DataFault → Type 0
JsonRefused source fault.Memory = ⊤
JsonRefused source (fault.At line column cause) = object_read source ≡ None
JsonRefused source (fault.Value e) = IfSome (told e) (λ r. object_read source ≡ Some (Err r))

-- the same for TOML
abbrev pub TableRefused : List ℕ → DataFault → Type 0
TableRefused source fault.Memory = ⊤
TableRefused source (fault.At line column cause) = parse_document source ≡ None
TableRefused source (fault.Value e) =
    IfSome (told e) (λ r. (table : toml.Members) × (parse_document source ≡ Some table) × MembersRefused table r)

abbrev pub IsRefused : Format → List ℕ → DataFault → Type 0
IsRefused format.Json source e = JsonRefused (strip_bom source) e
IsRefused format.Toml source e = TableRefused source e
IsRefused format.Csv source e = IsPlaced e
