use Rattle.std.proofs.Common.{◌∙◌, ap, sym, ◌∷◌, map}
use Rattle.liquid_runtime.specs.meaning.Frames.{scope_base, beginning, restored_by}
use Rattle.liquid_runtime.specs.meaning.Calls.{frame_of}
use Rattle.liquid_scopes.specs.declared.link.Link.TheVariants as link
use Rattle.liquid_scopes.specs.steps.Layers.{shown_over, restoring}
use Rattle.liquid_scopes.specs.steps.LinkLayers.{layer_of}
use Rattle.liquid_scopes.proofs.IndexLaws.{on_ok}
use Rattle.liquid_scopes.proofs.LayerLaws.{shown_more, owed_more}
use Rattle.liquid_scopes.proofs.flat_scopes.FlatScopesScopes.push.Goals as goal

pub returns-in-Loop-clause-ok : goal.returns-in-Loop-clause-ok
returns-in-Loop-clause-ok g c =
    let v = g.R.Runtime.view c.args.self.now.base in
    let xs = c.args.self.now.table.links.items in
    let ys = c.push_plain.new.self.table.links.items in
    on_ok c.push_plain.result
    (λ e. ap (λ b. shown_over (g.R.Runtime.view b) (map layer_of ys)) c.push_plain.ensures.base
    ∙ shown_more layer_of v xs ys (link.Loop c.in-Loop.frame) e
    ∙ ap (λ f. beginning g.R.Register.Fresh.fresh (frame_of f) (shown_over v (map layer_of xs))) (sym c.in-Loop.is))
    c.push_plain.ensures.added

pub returns-in-Loop-clause-opens : goal.returns-in-Loop-clause-opens
returns-in-Loop-clause-opens g c =
    let v = g.R.Runtime.view c.args.self.now.base in
    let xs = c.args.self.now.table.links.items in
    let ys = c.push_plain.new.self.table.links.items in
    let rs = scope_base ∷ g.R.Runtime.restores c.args.self.now.base in
    on_ok c.push_plain.result
    (λ e. ap (λ b. restoring g.R.Register.Fresh.shape (g.R.Runtime.view b) (map layer_of ys) (scope_base ∷ g.R.Runtime.restores b))
    c.push_plain.ensures.base
    ∙ owed_more g.R.Register.Fresh.shape layer_of v xs ys (link.Loop c.in-Loop.frame) rs e
    ∙ ap (λ f. restored_by (frame_of f) (shown_over v (map layer_of xs)) ∷ restoring g.R.Register.Fresh.shape v (map layer_of xs) rs)
    (sym c.in-Loop.is))
    c.push_plain.ensures.added

pub returns-in-None-clause-ok : goal.returns-in-None-clause-ok
returns-in-None-clause-ok g c =
    let v = g.R.Runtime.view c.args.self.now.base in
    let xs = c.args.self.now.table.links.items in
    let ys = c.push_plain-in-None.new.self.table.links.items in
    on_ok c.push_plain-in-None.result
    (λ e. ap (λ b. shown_over (g.R.Runtime.view b) (map layer_of ys)) c.push_plain-in-None.ensures.base
    ∙ shown_more layer_of v xs ys (link.None) e
    ∙ ap (λ f. beginning g.R.Register.Fresh.fresh (frame_of f) (shown_over v (map layer_of xs))) (sym c.in-None.is))
    c.push_plain-in-None.ensures.added

pub returns-in-None-clause-opens : goal.returns-in-None-clause-opens
returns-in-None-clause-opens g c =
    let v = g.R.Runtime.view c.args.self.now.base in
    let xs = c.args.self.now.table.links.items in
    let ys = c.push_plain-in-None.new.self.table.links.items in
    let rs = scope_base ∷ g.R.Runtime.restores c.args.self.now.base in
    on_ok c.push_plain-in-None.result
    (λ e. ap (λ b. restoring g.R.Register.Fresh.shape (g.R.Runtime.view b) (map layer_of ys) (scope_base ∷ g.R.Runtime.restores b))
    c.push_plain-in-None.ensures.base
    ∙ owed_more g.R.Register.Fresh.shape layer_of v xs ys (link.None) rs e
    ∙ ap (λ f. restored_by (frame_of f) (shown_over v (map layer_of xs)) ∷ restoring g.R.Register.Fresh.shape v (map layer_of xs) rs)
    (sym c.in-None.is))
    c.push_plain-in-None.ensures.added

pub returns-in-Stack-clause-ok : goal.returns-in-Stack-clause-ok
returns-in-Stack-clause-ok g c =
    let v = g.R.Runtime.view c.args.self.now.base in
    let xs = c.args.self.now.table.links.items in
    let ys = c.push_plain-in-Stack.new.self.table.links.items in
    on_ok c.push_plain-in-Stack.result
    (λ e. ap (λ b. shown_over (g.R.Runtime.view b) (map layer_of ys)) c.push_plain-in-Stack.ensures.base
    ∙ shown_more layer_of v xs ys (link.Stack c.in-Stack.names c.in-Stack.name) e
    ∙ ap (λ f. beginning g.R.Register.Fresh.fresh (frame_of f) (shown_over v (map layer_of xs))) (sym c.in-Stack.is))
    c.push_plain-in-Stack.ensures.added

pub returns-in-Stack-clause-opens : goal.returns-in-Stack-clause-opens
returns-in-Stack-clause-opens g c =
    let v = g.R.Runtime.view c.args.self.now.base in
    let xs = c.args.self.now.table.links.items in
    let ys = c.push_plain-in-Stack.new.self.table.links.items in
    let rs = scope_base ∷ g.R.Runtime.restores c.args.self.now.base in
    on_ok c.push_plain-in-Stack.result
    (λ e. ap (λ b. restoring g.R.Register.Fresh.shape (g.R.Runtime.view b) (map layer_of ys) (scope_base ∷ g.R.Runtime.restores b))
    c.push_plain-in-Stack.ensures.base
    ∙ owed_more g.R.Register.Fresh.shape layer_of v xs ys (link.Stack c.in-Stack.names c.in-Stack.name) rs e
    ∙ ap (λ f. restored_by (frame_of f) (shown_over v (map layer_of xs)) ∷ restoring g.R.Register.Fresh.shape v (map layer_of xs) rs)
    (sym c.in-Stack.is))
    c.push_plain-in-Stack.ensures.added
