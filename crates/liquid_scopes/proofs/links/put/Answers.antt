use Rattle.std.proofs.Common.{sym, ◌∙◌, ap, string_bytes, map, option_map}
use Rattle.std.specs.Prelude.{Ok}
use Rattle.std.proofs.lemmas.Result.{IfOk-weaker, on_ok_weaker, on_err_weaker}
use Rattle.std.specs.FinMap.{get, insert}
use Rattle.liquid_value.specs.meaning.View.{view as tree_of}
use Rattle.liquid_runtime.specs.meaning.Sets.{old_value, no_global_frame}
use Rattle.liquid_scopes.specs.steps.Layers.{restoring, assigned, assigning, is_global}
use Rattle.liquid_scopes.specs.steps.LinkLayers.{layer_of}
use Rattle.liquid_scopes.specs.steps.Standing.{is_sandboxed}
use Rattle.liquid_scopes.proofs.LayerLaws.{set_shown, set_restoring, set_same, globals_here, read_here}
use Rattle.liquid_scopes.proofs.FlatLaws.{put_at}
use Rattle.liquid_scopes.proofs.Places.{put_places, assigning_sandboxed, assigning_global}
use Rattle.liquid_scopes.proofs.GivesLaws.{gives_value, on_both}
use Rattle.liquid_scopes.proofs.links.put.Goals as goal

pub assign-requires : goal.assign-requires
assign-requires g c =
    ap (λ l. is_global (layer_of l)) c.index_mut.ensures.value ∙ ap is_global
    (read_here layer_of c.args.links.now.items c.args.place c.index_mut.result.now c.requires) ∙ c.requires.global

pub returns-clause-gives : goal.returns-clause-gives
returns-clause-gives g c = λ v.
    let q = string_bytes c.args.name in
    let xs = c.args.links.now.items in
    let i = c.args.place in
    let x = c.assign.new.self in
    let here = read_here layer_of xs i c.index_mut.result.now c.requires in
    gives_value (option_map tree_of) c.assign.result _ (IfOk-weaker c.assign.result _ _ (λ old is.
    ap (λ o. old_value no_global_frame o q) (globals_here v (map layer_of xs) i c.requires)
    ∙ ap (λ o. Ok o) (sym (is ∙ ap (λ k. get (assigned (layer_of k)) q) c.index_mut.ensures.value ∙ ap (λ k. get (assigned k) q) here)))
    c.assign.ensures.old) c.assign.ensures.err

pub returns-clause-sets : goal.returns-clause-sets
returns-clause-sets g c = λ v.
    let q = string_bytes c.args.name in
    let xs = c.args.links.now.items in
    let i = c.args.place in
    let x = c.assign.new.self in
    let here = read_here layer_of xs i c.index_mut.result.now c.requires in
    let t = tree_of c.args.value in
    on_ok_weaker c.assign.result (λ is.
    let set =
    is ∙ ap (λ k. assigning (insert (assigned (layer_of k)) q t) (layer_of k)) c.index_mut.ensures.value
    ∙ ap (λ k. assigning (insert (assigned k) q t) k) here in
    set_shown layer_of v xs i x q t c.requires set) c.assign.ensures.sets

pub returns-clause-owes : goal.returns-clause-owes
returns-clause-owes g c = λ v rs.
    let q = string_bytes c.args.name in
    let xs = c.args.links.now.items in
    let i = c.args.place in
    let x = c.assign.new.self in
    let here = read_here layer_of xs i c.index_mut.result.now c.requires in
    let t = tree_of c.args.value in
    on_both c.assign.result
    (λ is. set_restoring g.V.Fresh.shape layer_of v xs i x q t rs c.requires
    (is ∙ ap (λ k. assigning (insert (assigned (layer_of k)) q t) (layer_of k)) c.index_mut.ensures.value
    ∙ ap (λ k. assigning (insert (assigned k) q t) k) here))
    (λ same. ap (λ ys. restoring g.V.Fresh.shape v ys rs) (set_same layer_of xs i x c.requires
    (same ∙ ap layer_of c.index_mut.ensures.value ∙ here)))
    c.assign.ensures.sets c.assign.ensures.unchanged

pub returns-clause-names : goal.returns-clause-names
returns-clause-names g c =
    let q = string_bytes c.args.name in
    let xs = c.args.links.now.items in
    let i = c.args.place in
    let x = c.assign.new.self in
    let here = read_here layer_of xs i c.index_mut.result.now c.requires in
    let t = tree_of c.args.value in
    on_ok_weaker c.assign.result (λ is p j.
    let set =
    is ∙ ap (λ k. assigning (insert (assigned (layer_of k)) q t) (layer_of k)) c.index_mut.ensures.value
    ∙ ap (λ k. assigning (insert (assigned k) q t) k) here in
    put_at layer_of xs i x q p t j c.requires set) c.assign.ensures.sets

pub returns-clause-seals : goal.returns-clause-seals
returns-clause-seals g c =
    let q = string_bytes c.args.name in
    let xs = c.args.links.now.items in
    let i = c.args.place in
    let x = c.assign.new.self in
    let here = read_here layer_of xs i c.index_mut.result.now c.requires in
    let t = tree_of c.args.value in
    on_ok_weaker c.assign.result (λ is.
    let set =
    is ∙ ap (λ k. assigning (insert (assigned (layer_of k)) q t) (layer_of k)) c.index_mut.ensures.value
    ∙ ap (λ k. assigning (insert (assigned k) q t) k) here in
    put_places is_sandboxed layer_of assigning_sandboxed xs i x q t c.requires set) c.assign.ensures.sets

pub returns-clause-globals : goal.returns-clause-globals
returns-clause-globals g c =
    let q = string_bytes c.args.name in
    let xs = c.args.links.now.items in
    let i = c.args.place in
    let x = c.assign.new.self in
    let here = read_here layer_of xs i c.index_mut.result.now c.requires in
    let t = tree_of c.args.value in
    on_ok_weaker c.assign.result (λ is.
    let set =
    is ∙ ap (λ k. assigning (insert (assigned (layer_of k)) q t) (layer_of k)) c.index_mut.ensures.value
    ∙ ap (λ k. assigning (insert (assigned k) q t) k) here in
    put_places is_global layer_of assigning_global xs i x q t c.requires set) c.assign.ensures.sets

pub returns-clause-unchanged : goal.returns-clause-unchanged
returns-clause-unchanged g c =
    let xs = c.args.links.now.items in
    let i = c.args.place in
    let here = read_here layer_of xs i c.index_mut.result.now c.requires in
    on_err_weaker c.assign.result (λ same. set_same layer_of xs i c.assign.new.self c.requires
    (same ∙ ap layer_of c.index_mut.ensures.value ∙ here)) c.assign.ensures.unchanged
