use Rattle.std.proofs.Common.{◌∙◌, ap, [], ◌∷◌, ◌++◌, map}
use Rattle.liquid_runtime.specs.meaning.Frames.{scope_base, restored_by}
use Rattle.liquid_runtime.specs.meaning.Calls.{frame_of}
use Rattle.liquid_scopes.specs.steps.Layers.{shown_over, restoring}
use Rattle.liquid_scopes.specs.steps.LinkLayers.{layer_of}
use Rattle.liquid_scopes.proofs.LayerLaws.{map_append, shown_registers, begins_over, restores_over}
use Rattle.liquid_scopes.proofs.chained_scopes.ChainedScopesScopes.push.Goals as goal

pub returns-clause-ok : goal.returns-clause-ok
returns-clause-ok g c =
    let v = g.R.Runtime.view c.args.self.now.base in
    let w = g.R.Runtime.view c.opening-link.new.base in
    let xs = c.args.self.now.links.items in
    let ls = map layer_of xs in
    let l = c.opening-link.result in
    ap (λ ys. shown_over w (map layer_of ys)) (c.push_reserved.ensures.items ∙ ap (λ ys. ys ++ l ∷ []) c.reserve.ensures.items)
    ∙ ap (shown_over w) (map_append layer_of xs (l ∷ []))
    ∙ begins_over v w ls (layer_of l) c.opening-link.ensures.registers
    ∙ c.opening-link.ensures.begins (shown_over v ls) (shown_registers v ls)

pub returns-clause-opens : goal.returns-clause-opens
returns-clause-opens g c =
    let v = g.R.Runtime.view c.args.self.now.base in
    let w = g.R.Runtime.view c.opening-link.new.base in
    let xs = c.args.self.now.links.items in
    let ls = map layer_of xs in
    let l = c.opening-link.result in
    let rs = scope_base ∷ g.R.Runtime.restores c.opening-link.new.base in
    ap (λ ys. restoring g.R.Register.Fresh.shape w (map layer_of ys) rs)
    (c.push_reserved.ensures.items ∙ ap (λ ys. ys ++ l ∷ []) c.reserve.ensures.items)
    ∙ ap (λ ys. restoring g.R.Register.Fresh.shape w ys rs) (map_append layer_of xs (l ∷ []))
    ∙ restores_over g.R.Register.Fresh.shape v w ls (layer_of l) rs c.opening-link.ensures.registers
    ∙ ap (λ r. r ∷ restoring g.R.Register.Fresh.shape v ls rs) (c.opening-link.ensures.restores (shown_over v ls) (shown_registers v ls))
    ∙ ap (λ ys. restored_by (frame_of c.args.frame) (shown_over v ls) ∷ restoring g.R.Register.Fresh.shape v ls (scope_base ∷ ys))
    c.opening-link.ensures.owes
