use Rattle.liquid_scopes.proofs.flat_scopes.FlatScopesRuntime.seals.Goals as goal

pub returns : goal.returns
returns g c = c.seals_over.ensures.seals (g.R.Runtime.view c.args.self.now.base) c.seals.ensures
