use Rattle.std.proofs.Common.{ap, ◌∙◌}
use Rattle.std.specs.Prelude.{option_map}
use Rattle.liquid_value.specs.meaning.View.{view}
use Rattle.liquid_paths.proofs.Values.{value_of_member}
use Rattle.liquid_paths.proofs.Turns.{now_mapped}
use Rattle.liquid_filters.proofs.value.parts.member_at.Goals as goal

pub returns : goal.returns
returns c =
    now_mapped view c.get.result ∙ ap (option_map view) c.get.ensures.value ∙ value_of_member c.args.name.now c.args.members.now.entries
