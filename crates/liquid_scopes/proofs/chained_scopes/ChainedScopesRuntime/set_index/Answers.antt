use Rattle.std.proofs.Common.{◌∙◌, ap, string_bytes, ◌∷◌, map}
use Rattle.std.proofs.lemmas.Result.{on_ok_weaker, on_err_weaker}
use Rattle.liquid_value.specs.meaning.View.{view as tree_of}
use Rattle.liquid_runtime.specs.meaning.Frames.{scope_base}
use Rattle.liquid_runtime.specs.meaning.Sets.{old_value, no_index_frame}
use Rattle.liquid_scopes.specs.steps.Layers.{shown_over, restoring}
use Rattle.liquid_scopes.specs.steps.LinkLayers.{layer_of}
use Rattle.liquid_scopes.proofs.GivesLaws.{gives_same, on_both}
use Rattle.liquid_scopes.proofs.LayerLaws.{shown_put_index, restoring_put_index, shown_index}
use Rattle.liquid_scopes.proofs.chained_scopes.ChainedScopesRuntime.set_index.Goals as goal

pub returns-clause-gives : goal.returns-clause-gives
returns-clause-gives g c =
    gives_same _ c.set_index.result _ _ (ap (λ i. old_value no_index_frame i (string_bytes c.args.name))
    (shown_index (g.R.Runtime.view c.args.self.now.base) (map layer_of c.args.self.now.links.items))) c.set_index.ensures.gives

pub returns-clause-sets : goal.returns-clause-sets
returns-clause-sets g c =
    let ls = map layer_of c.args.self.now.links.items in
    on_ok_weaker c.set_index.result (λ is. ap (λ v. shown_over v ls) is
    ∙ shown_put_index (g.R.Runtime.view c.args.self.now.base) ls (string_bytes c.args.name) (tree_of c.args.value))
    c.set_index.ensures.sets

pub returns-clause-unchanged : goal.returns-clause-unchanged
returns-clause-unchanged g c =
    on_err_weaker c.set_index.result (λ same. ap (λ v. shown_over v (map layer_of c.args.self.now.links.items)) same)
    c.set_index.ensures.unchanged

pub returns-clause-owes : goal.returns-clause-owes
returns-clause-owes g c =
    let v = g.R.Runtime.view c.args.self.now.base in
    let ls = map layer_of c.args.self.now.links.items in
    let rs = scope_base ∷ g.R.Runtime.restores c.set_index.new.self in
    let below = ap (λ xs. restoring g.R.Register.Fresh.shape v ls (scope_base ∷ xs)) c.set_index.ensures.owes in
    on_both c.set_index.result
    (λ is. ap (λ u. restoring g.R.Register.Fresh.shape u ls rs) is
    ∙ restoring_put_index g.R.Register.Fresh.shape v ls (string_bytes c.args.name) (tree_of c.args.value) rs ∙ below)
    (λ same. ap (λ u. restoring g.R.Register.Fresh.shape u ls rs) same ∙ below)
    c.set_index.ensures.sets c.set_index.ensures.unchanged
