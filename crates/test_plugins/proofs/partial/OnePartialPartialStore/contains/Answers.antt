use Rattle.std.proofs.Common.{◌≡◌, Ok, Err, Some, map, string_bytes, sym, ap, ◌∙◌}
use Rattle.liquid_template.specs.meaning.TemplateOf.{template_nodes}
use Rattle.test_plugins.proofs.PartialLemmas.{contains_one}
use Rattle.test_plugins.proofs.partial.OnePartialPartialStore.contains.Goals as goal

pub returns : goal.returns
returns g c = (rw c.as_str.ensures.value at c.eq.ensures) ∙ sym (contains_one _ _ c.args.name.now)
