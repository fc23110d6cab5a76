use Rattle.std.proofs.Common.{◌≤◌, Some, IfOk, option_map, subst}
use Rattle.liquid_plugins.specs.meaning.Size.{size_nodes}
use Rattle.liquid_template.specs.steps.Bound.{partials_size}
use Rattle.liquid_template.specs.meaning.TemplateOf.{template_nodes}
use Rattle.liquid_template.proofs.Bounds.{small_answer}
use Rattle.liquid_template.proofs.partial.find.Goals as goal

pub returns-in-Some-clause-small : goal.returns-in-Some-clause-small
returns-in-Some-clause-small g c =
    subst (λ store. IfOk c.get.result (λ template. size_nodes (template_nodes g.X.Meant.shape g.T.Meant.shape g.B.Meant.shape
    template.value) ≤ partials_size (option_map g.S.Store.PartialStore.finds store)))
    c.in-Some.ensures.value (small_answer _ c.get.result (Some (g.S.Store.PartialStore.finds c.in-Some.store.now)) c.args.name.now
    c.get.ensures.gives)
