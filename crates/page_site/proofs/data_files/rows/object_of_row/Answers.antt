use Rattle.std.proofs.Common.{◌≡◌, ◌<◌, [], length, drop, sym, ap, ◌∙◌, arith}
use Rattle.std.proofs.lemmas.List.{drop_all}
use Rattle.csv.specs.Records.{fields_of}
use Rattle.liquid_value.specs.meaning.View.{members_view}
use Rattle.page_site.specs.meaning.data_files.Sheet.{row_members}
use Rattle.page_site.proofs.Columns.{one_more_field}
use Rattle.page_site.proofs.data_files.rows.object_of_row.Goals as goal

pub loop-place-preserved : goal.loop-place-preserved
loop-place-preserved c =
    let names = fields_of c.args.names.now in
    let fields = fields_of c.args.row.now in
    let i = c.loop-place.place in
    let here : i < length names = omega arith in
    let step = one_more_field i names fields (members_view c.loop-place.object.entries) here in
    cc (c.get-name.ensures.value, c.get-field.ensures.value, c.in_ok-put_field.ensures, c.loop-place.invariant)

pub returns : goal.returns
returns c =
    let names = fields_of c.args.names.now in
    let none : drop c.loop-place.place names ≡ [] = drop_all c.loop-place.place names (omega arith) in
    sym (c.loop-place.invariant
    ∙ ap (λ ns. row_members ns (drop c.loop-place.place (fields_of c.args.row.now)) (members_view c.loop-place.object.entries)) none)
