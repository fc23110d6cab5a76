use Rattle.std.proofs.Common.{drop, map}
use Rattle.liquid_error.specs.meaning.Refusal.{Refusal}
use Rattle.liquid_value.specs.meaning.Tree.{Items, Members, no_members}
use Rattle.liquid_value.specs.meaning.View.{view, members_view}
use Rattle.toml.specs.View.{items_view as toml_items, members_view as toml_members}
use Rattle.page_site.specs.meaning.data_files.Tables.{ItemsGiven, MembersGiven, ItemsRefused, MembersRefused}
use Rattle.page_site.proofs.Walk.{joined}
use Rattle.page_site.proofs.data_files.tables.+convert.Given as goal

abbrev pub invariant-object_of_table-loop-key : goal.invariant-object_of_table-loop-key
invariant-object_of_table-loop-key l = record {
  given : (ts : Members) → MembersGiven (toml_members l.key-iterator) (members_view l.object.entries) ts
      → MembersGiven (toml_members l.table.entries) no_members ts;
  refused : (r : Refusal) → MembersRefused (toml_members l.key-iterator) r → MembersRefused (toml_members l.table.entries) r;
}

abbrev pub invariant-array_of-loop-item : goal.invariant-array_of-loop-item
invariant-array_of-loop-item l = record {
  given : (ts : Items) → ItemsGiven (toml_items (drop l.item-index l.item-items)) ts
      → ItemsGiven (toml_items l.item-items) (joined (map view l.values.items) ts);
  refused : (r : Refusal) → ItemsRefused (toml_items (drop l.item-index l.item-items)) r → ItemsRefused (toml_items l.item-items) r;
}
