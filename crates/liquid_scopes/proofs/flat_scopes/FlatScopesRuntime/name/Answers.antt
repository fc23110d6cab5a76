use Rattle.liquid_scopes.proofs.flat_scopes.FlatScopesRuntime.name.Goals as goal

pub returns : goal.returns
returns g c = c.name_over.ensures (g.R.Runtime.view c.args.self.now.base) c.name.ensures
