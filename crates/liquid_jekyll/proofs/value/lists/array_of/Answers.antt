use Rattle.std.proofs.Common.{ap, ◌∙◌}
use Rattle.liquid_value.specs.meaning.Tree.{array}
use Rattle.liquid_filters.proofs.SliceLemmas.{items_copied}
use Rattle.liquid_jekyll.proofs.value.lists.array_of.Goals as goal

pub returns : goal.returns
returns c = c.from.ensures ∙ ap array (items_copied c.args.items.now c.in_ok-to_vec.field-0.items c.in_ok-to_vec.ensures.ok)
