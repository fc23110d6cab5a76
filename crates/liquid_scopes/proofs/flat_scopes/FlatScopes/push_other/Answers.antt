use Rattle.std.proofs.Common.{◌∙◌, ap, [], ◌∷◌, map}
use Rattle.liquid_runtime.specs.meaning.Frames.{scope_base, restored_by}
use Rattle.liquid_runtime.specs.meaning.Calls.{frame_of}
use Rattle.liquid_scopes.specs.steps.Layers.{shown_over, restoring}
use Rattle.liquid_scopes.specs.steps.LinkLayers.{layer_of}
use Rattle.liquid_scopes.proofs.LayerLaws.{map_append, shown_registers, begins_over, restores_over, given_back}
use Rattle.liquid_scopes.proofs.flat_scopes.FlatScopes.push_other.Goals as goal

pub returns-in-Ok-clause-ok : goal.returns-in-Ok-clause-ok
returns-in-Ok-clause-ok g c =
    let v = g.R.Runtime.view c.args.self.now.base in
    let w = g.R.Runtime.view c.opening-link.new.base in
    let xs = c.args.self.now.table.links.items in
    let ls = map layer_of xs in
    let l = c.opening-link.result in
    ap (λ ys. shown_over w (map layer_of ys)) c.in-Ok.ensures.added ∙ ap (shown_over w) (map_append layer_of xs (l ∷ []))
    ∙ begins_over v w ls (layer_of l) c.opening-link.ensures.registers
    ∙ c.opening-link.ensures.begins (shown_over v ls) (shown_registers v ls)

pub returns-in-Ok-clause-opens : goal.returns-in-Ok-clause-opens
returns-in-Ok-clause-opens g c =
    let v = g.R.Runtime.view c.args.self.now.base in
    let w = g.R.Runtime.view c.opening-link.new.base in
    let xs = c.args.self.now.table.links.items in
    let ls = map layer_of xs in
    let l = c.opening-link.result in
    let rs = scope_base ∷ g.R.Runtime.restores c.opening-link.new.base in
    ap (λ ys. restoring g.R.Register.Fresh.shape w (map layer_of ys) rs) c.in-Ok.ensures.added
    ∙ ap (λ ys. restoring g.R.Register.Fresh.shape w ys rs) (map_append layer_of xs (l ∷ []))
    ∙ restores_over g.R.Register.Fresh.shape v w ls (layer_of l) rs c.opening-link.ensures.registers
    ∙ ap (λ r. r ∷ restoring g.R.Register.Fresh.shape v ls rs) (c.opening-link.ensures.restores (shown_over v ls) (shown_registers v ls))
    ∙ ap (λ ys. restored_by (frame_of c.args.frame) (shown_over v ls) ∷ restoring g.R.Register.Fresh.shape v ls (scope_base ∷ ys))
    c.opening-link.ensures.owes

pub returns-in-Err-clause-unchanged : goal.returns-in-Err-clause-unchanged
returns-in-Err-clause-unchanged g c =
    let v = g.R.Runtime.view c.args.self.now.base in
    let w = g.R.Runtime.view c.opening-link.new.base in
    let u = g.R.Runtime.view c.closing.new.base in
    let ls = map layer_of c.args.self.now.table.links.items in
    let back =
    given_back g.R.Register.Fresh.shape v w u (layer_of c.opening-link.result) (layer_of c.in-Err.link) _
    (frame_of c.args.frame) c.opening-link.ensures.registers c.closing.ensures.registers c.opening-link.ensures.begins
    c.opening-link.ensures.restores c.closing.ensures.ends (ap layer_of c.in-Err.ensures.back) in
    ap (λ ys. shown_over u (map layer_of ys)) c.in-Err.ensures.unchanged ∙ ap (λ y. shown_over y ls) back

pub returns-in-Err-clause-owes : goal.returns-in-Err-clause-owes
returns-in-Err-clause-owes g c =
    let v = g.R.Runtime.view c.args.self.now.base in
    let w = g.R.Runtime.view c.opening-link.new.base in
    let u = g.R.Runtime.view c.closing.new.base in
    let ls = map layer_of c.args.self.now.table.links.items in
    let back =
    given_back g.R.Register.Fresh.shape v w u (layer_of c.opening-link.result) (layer_of c.in-Err.link) _
    (frame_of c.args.frame) c.opening-link.ensures.registers c.closing.ensures.registers c.opening-link.ensures.begins
    c.opening-link.ensures.restores c.closing.ensures.ends (ap layer_of c.in-Err.ensures.back) in
    let rs = scope_base ∷ g.R.Runtime.restores c.closing.new.base in
    ap (λ ys. restoring g.R.Register.Fresh.shape u (map layer_of ys) rs) c.in-Err.ensures.unchanged
    ∙ ap (λ y. restoring g.R.Register.Fresh.shape y ls rs) back
    ∙ ap (λ ys. restoring g.R.Register.Fresh.shape v ls (scope_base ∷ ys)) (c.closing.ensures.owes ∙ c.opening-link.ensures.owes)
