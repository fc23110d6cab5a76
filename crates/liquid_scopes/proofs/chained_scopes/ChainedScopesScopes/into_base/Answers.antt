use Rattle.std.proofs.Common.{sym, ap, ◌∷◌, map}
use Rattle.liquid_runtime.specs.meaning.Frames.{scope_base}
use Rattle.liquid_scopes.specs.steps.Layers.{shown_over, restoring}
use Rattle.liquid_scopes.specs.steps.LinkLayers.{layer_of}
use Rattle.liquid_scopes.proofs.LayerLaws.{none_open}
use Rattle.liquid_scopes.proofs.chained_scopes.ChainedScopesScopes.into_base.Goals as goal

pub returns-clause-view : goal.returns-clause-view
returns-clause-view g c =
    ap (shown_over (g.R.Runtime.view c.args.self.base)) (sym (none_open g.R.Register.Fresh.shape (g.R.Runtime.view c.args.self.base)
    (map layer_of c.args.self.links.items) _ c.requires))

pub returns-clause-owes : goal.returns-clause-owes
returns-clause-owes g c =
    ap (λ ls. restoring g.R.Register.Fresh.shape (g.R.Runtime.view c.args.self.base) ls
    (scope_base ∷ g.R.Runtime.restores c.args.self.base)) (sym (none_open g.R.Register.Fresh.shape (g.R.Runtime.view c.args.self.base)
    (map layer_of c.args.self.links.items) _ c.requires))
