use Rattle.std.proofs.Common.{◌∙◌, sym, ap, string_bytes, ◌∷◌, map, option_map}
use Rattle.std.specs.FinMap.{get, insert}
use Rattle.std.specs.Prelude.{Ok}
use Rattle.std.proofs.lemmas.Result.{IfOk-weaker, on_ok_weaker, on_err_weaker}
use Rattle.liquid_value.specs.meaning.View.{view as tree_of}
use Rattle.liquid_runtime.specs.meaning.Frames.{scope_base}
use Rattle.liquid_runtime.specs.meaning.Sets.{old_value, no_global_frame}
use Rattle.liquid_scopes.specs.steps.Layers.{shown_over, restoring, assigned, assigning, is_global}
use Rattle.liquid_scopes.specs.steps.LinkLayers.{layer_of}
use Rattle.liquid_scopes.proofs.GivesLaws.{gives_value, gives_same, on_both}
use Rattle.liquid_scopes.proofs.LayerLaws.{
  shown_globals_are,
  shown_put_global,
  restoring_put_global,
  set_shown,
  set_restoring,
  set_same,
  globals_here,
  read_here,
}
use Rattle.liquid_scopes.proofs.chained_scopes.ChainedScopesRuntime.set_global.Goals as goal

pub assign-requires : goal.assign-requires
assign-requires g c =
    ap (λ l. is_global (layer_of l)) c.index_mut.ensures.value ∙ ap is_global
    (read_here layer_of c.args.self.now.links.items c.in-Some.i c.index_mut.result.now c.in-Some.ensures) ∙ c.in-Some.ensures.global

pub returns-in-Some-clause-gives : goal.returns-in-Some-clause-gives
returns-in-Some-clause-gives g c =
    let q = string_bytes c.args.name in
    let xs = c.args.self.now.links.items in
    let here = read_here layer_of xs c.in-Some.i c.index_mut.result.now c.in-Some.ensures in
    gives_value (option_map tree_of) c.assign.result _ (IfOk-weaker c.assign.result _ _ (λ old is.
    ap (λ o. old_value no_global_frame o q) (globals_here (g.R.Runtime.view c.args.self.now.base)
    (map layer_of xs) c.in-Some.i c.in-Some.ensures)
    ∙ ap (λ o. Ok o) (sym (is ∙ ap (λ k. get (assigned (layer_of k)) q) c.index_mut.ensures.value ∙ ap (λ k. get (assigned k) q) here)))
    c.assign.ensures.old) c.assign.ensures.err

pub returns-in-Some-clause-sets : goal.returns-in-Some-clause-sets
returns-in-Some-clause-sets g c =
    let q = string_bytes c.args.name in
    let xs = c.args.self.now.links.items in
    let t = tree_of c.args.value in
    let here = read_here layer_of xs c.in-Some.i c.index_mut.result.now c.in-Some.ensures in
    on_ok_weaker c.assign.result (λ is. set_shown layer_of (g.R.Runtime.view c.args.self.now.base) xs c.in-Some.i c.assign.new.self q t
    c.in-Some.ensures
    (is ∙ ap (λ k. assigning (insert (assigned (layer_of k)) q t) (layer_of k)) c.index_mut.ensures.value
    ∙ ap (λ k. assigning (insert (assigned k) q t) k) here)) c.assign.ensures.sets

pub returns-in-Some-clause-unchanged : goal.returns-in-Some-clause-unchanged
returns-in-Some-clause-unchanged g c =
    let xs = c.args.self.now.links.items in
    let here = read_here layer_of xs c.in-Some.i c.index_mut.result.now c.in-Some.ensures in
    on_err_weaker c.assign.result (λ same. ap (shown_over (g.R.Runtime.view c.args.self.now.base))
    (set_same layer_of xs c.in-Some.i c.assign.new.self c.in-Some.ensures (same ∙ ap layer_of c.index_mut.ensures.value ∙ here)))
    c.assign.ensures.unchanged

pub returns-in-Some-clause-owes : goal.returns-in-Some-clause-owes
returns-in-Some-clause-owes g c =
    let q = string_bytes c.args.name in
    let xs = c.args.self.now.links.items in
    let t = tree_of c.args.value in
    let v = g.R.Runtime.view c.args.self.now.base in
    let rs = scope_base ∷ g.R.Runtime.restores c.args.self.now.base in
    let here = read_here layer_of xs c.in-Some.i c.index_mut.result.now c.in-Some.ensures in
    on_both c.assign.result
    (λ is. set_restoring g.R.Register.Fresh.shape layer_of v xs c.in-Some.i c.assign.new.self q t rs c.in-Some.ensures
    (is ∙ ap (λ k. assigning (insert (assigned (layer_of k)) q t) (layer_of k)) c.index_mut.ensures.value
    ∙ ap (λ k. assigning (insert (assigned k) q t) k) here))
    (λ same. ap (λ ys. restoring g.R.Register.Fresh.shape v ys rs)
    (set_same layer_of xs c.in-Some.i c.assign.new.self c.in-Some.ensures (same ∙ ap layer_of c.index_mut.ensures.value ∙ here)))
    c.assign.ensures.sets c.assign.ensures.unchanged

pub returns-in-None-clause-gives : goal.returns-in-None-clause-gives
returns-in-None-clause-gives g c =
    gives_same _ c.set_global.result _ _ (ap (λ o. old_value no_global_frame o (string_bytes c.args.name))
    (shown_globals_are (g.R.Runtime.view c.args.self.now.base) (map layer_of c.args.self.now.links.items) c.in-None.ensures))
    c.set_global.ensures.gives

pub returns-in-None-clause-sets : goal.returns-in-None-clause-sets
returns-in-None-clause-sets g c =
    let ls = map layer_of c.args.self.now.links.items in
    on_ok_weaker c.set_global.result (λ is. ap (λ v. shown_over v ls) is
    ∙ shown_put_global (g.R.Runtime.view c.args.self.now.base) ls (string_bytes c.args.name) (tree_of c.args.value) c.in-None.ensures)
    c.set_global.ensures.sets

pub returns-in-None-clause-unchanged : goal.returns-in-None-clause-unchanged
returns-in-None-clause-unchanged g c =
    on_err_weaker c.set_global.result (λ same. ap (λ v. shown_over v (map layer_of c.args.self.now.links.items)) same)
    c.set_global.ensures.unchanged

pub returns-in-None-clause-owes : goal.returns-in-None-clause-owes
returns-in-None-clause-owes g c =
    let v = g.R.Runtime.view c.args.self.now.base in
    let ls = map layer_of c.args.self.now.links.items in
    let rs = scope_base ∷ g.R.Runtime.restores c.set_global.new.self in
    let below = ap (λ xs. restoring g.R.Register.Fresh.shape v ls (scope_base ∷ xs)) c.set_global.ensures.owes in
    on_both c.set_global.result
    (λ is. ap (λ u. restoring g.R.Register.Fresh.shape u ls rs) is
    ∙ restoring_put_global g.R.Register.Fresh.shape v ls (string_bytes c.args.name) (tree_of c.args.value) rs c.in-None.ensures ∙ below)
    (λ same. ap (λ u. restoring g.R.Register.Fresh.shape u ls rs) same ∙ below)
    c.set_global.ensures.sets c.set_global.ensures.unchanged
