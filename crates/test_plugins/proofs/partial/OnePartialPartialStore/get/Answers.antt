use Rattle.std.proofs.Common.{◌≡◌, Ok, Err, Some, map, string_bytes, sym, ap, ◌∙◌}
use Rattle.liquid_error.specs.meaning.Told.{told}
use Rattle.liquid_template.proofs.Renderings.{if_then}
use Rattle.liquid_template.specs.meaning.TemplateOf.{template_nodes}
use Rattle.test_plugins.proofs.PartialLemmas.{partial_own, partial_other}
use Rattle.test_plugins.proofs.partial.OnePartialPartialStore.get.Goals as goal

pub returns-in_ok-clone-clause-gives : goal.returns-in_ok-clone-clause-gives
returns-in_ok-clone-clause-gives g c =
    partial_own (string_bytes c.args.self.now.name) (template_nodes g.X.Meant.shape g.T.Meant.shape g.B.Meant.shape
    c.args.self.now.template.value) c.args.name.now (sym (rw c.as_str.ensures.value at c.eq.ensures) ∙ c.if-eq.true)
    ∙ ap (λ template. Ok (template_nodes g.X.Meant.shape g.T.Meant.shape g.B.Meant.shape template)) (sym c.in_ok-clone.ensures.cases)

pub returns-else-eq-clause-gives : goal.returns-else-eq-clause-gives
returns-else-eq-clause-gives g c =
    if_then (told c.unknown_partial.result)
    (λ r e. partial_other (string_bytes c.args.self.now.name) (template_nodes g.X.Meant.shape g.T.Meant.shape g.B.Meant.shape
    c.args.self.now.template.value) c.args.name.now (sym (rw c.as_str.ensures.value at c.eq.ensures) ∙ c.if-eq.false)
    ∙ ap (λ x. Err x) (sym e))
    (rw c.as_str-else-eq.ensures.value at c.unknown_partial.ensures)
