use Rattle.std.proofs.Common.{◌≡◌, [], map, refl, sym, ap, ◌∙◌}
use Rattle.std.proofs.lemmas.List.{nil_from_length}
use Rattle.std.proofs.lemmas.Result.{IfOk-weaker}
use Rattle.csv.specs.Records.{fields_of}
use Rattle.liquid_value.specs.meaning.View.{view, items_of}
use Rattle.page_site.specs.meaning.data_files.Sheet.{record_items, row_tree}
use Rattle.page_site.proofs.Columns.{fields_read}
use Rattle.page_site.proofs.data_files.rows.items_of.Goals as goal

pub returns-in-Some : goal.returns-in-Some
returns-in-Some c =
    let names = fields_of c.in-Some.names.now in
    let rows = c.in-Some.rows.now in
    let is = c.in-Some.ensures.cases.0 in
    IfOk-weaker c.objects_of.result (λ values. map view values.items ≡ map (λ row. row_tree names (fields_of row)) rows) _
    (λ values same. ap items_of (same ∙ fields_read names rows) ∙ sym (ap (λ records. record_items (map fields_of records)) is))
    c.objects_of.ensures

pub returns-in-None : goal.returns-in-None
returns-in-None c =
    let none : c.args.records.now ≡ [] = nil_from_length c.args.records.now c.in-None.ensures.cases in
    rw (c.new.ensures.items, none) refl
