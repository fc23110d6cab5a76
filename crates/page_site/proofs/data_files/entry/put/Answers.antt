use Rattle.std.proofs.Common.{◌≡◌, string_bytes, refl, ap, ◌∙◌}
use Rattle.liquid_value.specs.meaning.View.{members_view}
use Rattle.liquid_value.proofs.Entries.{members_view-insert_entry}
use Rattle.page_site.proofs.data_files.entry.put.Goals as goal

pub returns : goal.returns
returns c =
    let named : string_bytes c.in_ok-name.name ≡ c.args.name.now = c.in_ok-name.ensures.ok in
    ap members_view c.in_ok-insert.ensures.entries ∙ members_view-insert_entry c.args.object.now.entries c.in_ok-name.name c.args.value
    ∙ rw named refl
