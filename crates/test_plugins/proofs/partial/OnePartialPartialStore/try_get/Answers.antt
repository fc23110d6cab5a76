use Rattle.std.proofs.Common.{◌≡◌, Ok, Err, Some, map, string_bytes, sym, ap, ◌∙◌}
use Rattle.liquid_template.specs.meaning.TemplateOf.{template_nodes}
use Rattle.test_plugins.proofs.PartialLemmas.{tree_own, tree_other}
use Rattle.test_plugins.proofs.partial.OnePartialPartialStore.try_get.Goals as goal

pub returns-in_ok-clone-clause-gives : goal.returns-in_ok-clone-clause-gives
returns-in_ok-clone-clause-gives g c =
    ap (λ template. Some (template_nodes g.X.Meant.shape g.T.Meant.shape g.B.Meant.shape template)) c.in_ok-clone.ensures.cases
    ∙ sym (tree_own (string_bytes c.args.self.now.name) (template_nodes g.X.Meant.shape g.T.Meant.shape g.B.Meant.shape
    c.args.self.now.template.value) c.args.name.now (sym (rw c.as_str.ensures.value at c.eq.ensures) ∙ c.if-eq.true))

pub returns-else-eq-clause-gives : goal.returns-else-eq-clause-gives
returns-else-eq-clause-gives g c =
    sym (tree_other (string_bytes c.args.self.now.name) (template_nodes g.X.Meant.shape g.T.Meant.shape g.B.Meant.shape
    c.args.self.now.template.value) c.args.name.now (sym (rw c.as_str.ensures.value at c.eq.ensures) ∙ c.if-eq.false))
