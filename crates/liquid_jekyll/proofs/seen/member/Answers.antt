use Rattle.std.proofs.Common.{rules, ◌≡◌, ◌∙◌, ap, Some}
use Rattle.std.specs.Prelude.{option_map}
use Rattle.liquid_paths.proofs.Turns.{now_mapped}
use Rattle.liquid_paths.proofs.Values.{value_of_member}
use Rattle.liquid_value.specs.meaning.Parts.{as_object}
use Rattle.liquid_value.specs.meaning.View.{members_view, view}
use Rattle.liquid_jekyll.proofs.seen.member.Goals as goal

pub returns-in-Some : goal.returns-in-Some
returns-in-Some c =
    let seen : as_object (view c.args.value.now) ≡ Some (members_view c.in-Some.members.now.entries) = search rules in
    rw seen (now_mapped view c.get.result ∙ ap (option_map view) c.get.ensures.value
    ∙ value_of_member c.args.name.now c.in-Some.members.now.entries)
