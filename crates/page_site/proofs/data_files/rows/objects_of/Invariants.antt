use Rattle.std.proofs.Common.{◌≡◌, map, take}
use Rattle.csv.specs.Records.{fields_of}
use Rattle.liquid_value.specs.meaning.View.{view}
use Rattle.page_site.specs.meaning.data_files.Sheet.{row_tree}
use Rattle.page_site.proofs.data_files.rows.objects_of.Given as goal

abbrev pub invariant-loop-row : goal.invariant-loop-row
invariant-loop-row l = map view l.values.items ≡ map (λ row. row_tree (fields_of l.fn.names) (fields_of row)) (take l.row-index l.rows)
