use Rattle.std.proofs.Common.{◌≡◌, ◌++◌, [], ◌∷◌, Ok, Err, Some, map, string_bytes, sym, ap, ◌∙◌}
use Rattle.liquid_template.specs.meaning.TemplateOf.{template_nodes}
use Rattle.test_plugins.proofs.PartialLemmas.{keys_one, names_pushed}
use Rattle.test_plugins.proofs.partial.OnePartialPartialStore.names.Goals as goal

pub returns : goal.returns
returns g c =
    names_pushed _ _ _ c.new-names.ensures.items c.in_ok-push.ensures.items ∙ ap (λ bytes. bytes ∷ []) c.as_str.ensures.value
    ∙ sym (keys_one _ _)
