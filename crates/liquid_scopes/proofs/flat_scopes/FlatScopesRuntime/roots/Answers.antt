use Rattle.liquid_scopes.proofs.flat_scopes.FlatScopesRuntime.roots.Goals as goal

pub returns : goal.returns
returns g c = c.roots_over.ensures (g.R.Runtime.view c.args.self.now.base) c.in_ok-below.ensures
