use Rattle.std.proofs.Common.{◌≡◌, drop}
use Rattle.csv.specs.Records.{fields_of}
use Rattle.liquid_value.specs.meaning.Tree.{no_members}
use Rattle.liquid_value.specs.meaning.View.{members_view}
use Rattle.page_site.specs.meaning.data_files.Sheet.{row_members}
use Rattle.page_site.proofs.data_files.rows.object_of_row.Given as goal

abbrev pub invariant-loop-place : goal.invariant-loop-place
invariant-loop-place l =
    row_members (fields_of l.fn.names) (fields_of l.fn.row) no_members
    ≡ row_members (drop l.place (fields_of l.fn.names)) (drop l.place (fields_of l.fn.row)) (members_view l.object.entries)
