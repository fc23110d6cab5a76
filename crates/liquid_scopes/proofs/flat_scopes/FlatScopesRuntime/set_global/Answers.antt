use Rattle.std.proofs.Common.{◌∙◌, ap, string_bytes, ◌∷◌, map}
use Rattle.std.proofs.lemmas.Result.{on_ok_weaker, on_err_weaker}
use Rattle.liquid_value.specs.meaning.View.{view as tree_of}
use Rattle.liquid_runtime.specs.meaning.Frames.{scope_base}
use Rattle.liquid_runtime.specs.meaning.Sets.{old_value, no_global_frame}
use Rattle.liquid_scopes.specs.steps.Layers.{shown_over, restoring}
use Rattle.liquid_scopes.specs.steps.LinkLayers.{layer_of}
use Rattle.liquid_scopes.proofs.GivesLaws.{gives_same, on_both}
use Rattle.liquid_scopes.proofs.LayerLaws.{shown_globals_are, shown_put_global, restoring_put_global}
use Rattle.liquid_scopes.proofs.flat_scopes.FlatScopesRuntime.set_global.Goals as goal

pub returns-in-Some-clause-gives : goal.returns-in-Some-clause-gives
returns-in-Some-clause-gives g c = c.assign.ensures.gives (g.R.Runtime.view c.args.self.now.base)

pub returns-in-Some-clause-sets : goal.returns-in-Some-clause-sets
returns-in-Some-clause-sets g c = c.assign.ensures.sets (g.R.Runtime.view c.args.self.now.base)

pub returns-in-Some-clause-unchanged : goal.returns-in-Some-clause-unchanged
returns-in-Some-clause-unchanged g c = c.assign.ensures.unchanged (g.R.Runtime.view c.args.self.now.base)

pub returns-in-Some-clause-owes : goal.returns-in-Some-clause-owes
returns-in-Some-clause-owes g c =
    c.assign.ensures.owes (g.R.Runtime.view c.args.self.now.base) (scope_base ∷ g.R.Runtime.restores c.args.self.now.base)

pub returns-in-None-clause-gives : goal.returns-in-None-clause-gives
returns-in-None-clause-gives g c =
    gives_same _ c.set_global.result _ _ (ap (λ o. old_value no_global_frame o (string_bytes c.args.name))
    (shown_globals_are (g.R.Runtime.view c.args.self.now.base) (map layer_of c.args.self.now.table.links.items) c.in-None.ensures))
    c.set_global.ensures.gives

pub returns-in-None-clause-sets : goal.returns-in-None-clause-sets
returns-in-None-clause-sets g c =
    let ls = map layer_of c.args.self.now.table.links.items in
    on_ok_weaker c.set_global.result (λ is. ap (λ v. shown_over v ls) is
    ∙ shown_put_global (g.R.Runtime.view c.args.self.now.base) ls (string_bytes c.args.name) (tree_of c.args.value) c.in-None.ensures)
    c.set_global.ensures.sets

pub returns-in-None-clause-unchanged : goal.returns-in-None-clause-unchanged
returns-in-None-clause-unchanged g c =
    on_err_weaker c.set_global.result (λ same. ap (λ v. shown_over v (map layer_of c.args.self.now.table.links.items)) same)
    c.set_global.ensures.unchanged

pub returns-in-None-clause-owes : goal.returns-in-None-clause-owes
returns-in-None-clause-owes g c =
    let v = g.R.Runtime.view c.args.self.now.base in
    let ls = map layer_of c.args.self.now.table.links.items in
    let rs = scope_base ∷ g.R.Runtime.restores c.set_global.new.self in
    let below = ap (λ xs. restoring g.R.Register.Fresh.shape v ls (scope_base ∷ xs)) c.set_global.ensures.owes in
    on_both c.set_global.result
    (λ is. ap (λ u. restoring g.R.Register.Fresh.shape u ls rs) is
    ∙ restoring_put_global g.R.Register.Fresh.shape v ls (string_bytes c.args.name) (tree_of c.args.value) rs c.in-None.ensures ∙ below)
    (λ same. ap (λ u. restoring g.R.Register.Fresh.shape u ls rs) same ∙ below)
    c.set_global.ensures.sets c.set_global.ensures.unchanged
