-- The list of objects that a text of CSV is: its first record has the names, and each other record is an object.
use Rattle.std.specs.Prelude.{◌≡◌, ⊤, ℕ, List, [], ◌∷◌, Option, Some, None, map}
use Rattle.csv.specs.Reading.{AreRecords, default_config, strip_bom}
use Rattle.csv.specs.declared.parser.State.TheVariants as st
use Rattle.liquid_scalar.specs.meaning.Scalar.{text}
use Rattle.liquid_value.specs.meaning.Members.{put_member}
use Rattle.liquid_value.specs.meaning.Tree.{Tree, scalar, object, Items, no_items, Members, no_members}
use Rattle.liquid_value.specs.meaning.View.{items_of}
use Rattle.page_site.specs.declared.data_files.fault.DataFault.{DataFault}
use Rattle.page_site.specs.declared.data_files.fault.DataFault.TheVariants as fault

-- the members with a field at its column's name, if there are both
abbrev pub put_field : Option (List ℕ) → Option (List ℕ) → Members → Members
put_field None field found = found
put_field (Some name) None found = found
put_field (Some name) (Some field) found = put_member name (scalar (text field)) found

-- the members with each field at its column's name
abbrev pub row_members : List (List ℕ) → List (List ℕ) → Members → Members
row_members [] fields found = found
row_members (name ∷ names) [] found = found
row_members (name ∷ names) (field ∷ fields) found = row_members names fields (put_field (Some name) (Some field) found)

abbrev pub row_tree : List (List ℕ) → List (List ℕ) → Tree
row_tree names row = object (row_members names row no_members)

-- the objects of records, of which the first has the names
abbrev pub record_items : List (List (List ℕ)) → Items
record_items [] = no_items
record_items (names ∷ rows) = items_of (map (row_tree names) rows)

-- the objects of the records that a text is
abbrev pub SheetGiven : List ℕ → Items → Type 0
SheetGiven source ts =
    (records : List (List (List ℕ))) × AreRecords default_config st.StartRecord (strip_bom source) records × (ts ≡ record_items records)

-- no value is refused
abbrev pub IsPlaced : DataFault → Type 0
IsPlaced fault.Memory = ⊤
IsPlaced (fault.At line column cause) = ⊤
IsPlaced (fault.Value e) = ⊥
