use Rattle.std.proofs.Common.{◌≡◌, string_bytes, refl, ap, ◌∙◌}
use Rattle.std.specs.Prelude.{option_map}
use Rattle.liquid_value.specs.meaning.Members.{get_member}
use Rattle.liquid_value.specs.meaning.View.{view, members_view}
use Rattle.liquid_value.proofs.Entries.{members_view-insert_entry}
use Rattle.page_site.proofs.Paths.{nil_view, value_of_member}
use Rattle.page_site.proofs.data_files.assign.replace_with_nil.Goals as goal

pub returns-clause-old : goal.returns-clause-old
returns-clause-old c =
    let named : string_bytes c.in_ok-name.name ≡ c.args.name.now = c.in_ok-name.ensures.ok in
    ap (option_map view) c.in_ok-value.ensures.old ∙ value_of_member (string_bytes c.in_ok-name.name) c.args.object.now.entries
    ∙ ap (λ name. get_member name (members_view c.args.object.now.entries)) named

pub returns-clause-left : goal.returns-clause-left
returns-clause-left c =
    let named : string_bytes c.in_ok-name.name ≡ c.args.name.now = c.in_ok-name.ensures.ok in
    ap members_view c.in_ok-value.ensures.entries ∙ members_view-insert_entry c.args.object.now.entries c.in_ok-name.name _
    ∙ rw (named, nil_view) refl
