use Rattle.std.proofs.Common.{map, ap, subst, ◌∙◌}
use Rattle.csv.specs.Reading.{AreRecords, default_config, strip_bom}
use Rattle.csv.specs.Records.{fields_of}
use Rattle.csv.specs.declared.parser.State.TheVariants as st
use Rattle.page_site.specs.meaning.data_files.Sheet.{record_items}
use Rattle.page_site.proofs.data_files.rows.rows_of_csv.Goals as goal

pub returns-clause-given : goal.returns-clause-given
returns-clause-given c = (
  map fields_of c.in-Ok.records.items,
  subst (λ bytes. AreRecords default_config st.StartRecord (strip_bom bytes) (map fields_of c.in-Ok.records.items))
      c.as_bytes.ensures.value c.in-Ok.ensures,
  c.in_ok-items_of.ensures ∙ ap (λ records. record_items (map fields_of records)) c.as_slice.ensures.value,
)
