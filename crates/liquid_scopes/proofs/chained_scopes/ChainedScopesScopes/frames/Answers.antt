use Rattle.std.proofs.Common.{arith, ◌∷◌, map}
use Rattle.liquid_runtime.specs.meaning.Frames.{scope_base}
use Rattle.liquid_scopes.specs.steps.LinkLayers.{layer_of}
use Rattle.liquid_scopes.proofs.LayerLaws.{map_length, count_open}
use Rattle.liquid_scopes.proofs.chained_scopes.ChainedScopesScopes.frames.Goals as goal

pub returns : goal.returns
returns g c =
    let ls = map layer_of c.args.self.now.links.items in
    omega (
      arith,
      c.len.ensures,
      c.args.self.now.links.ok.0,
      map_length layer_of c.args.self.now.links.items,
      count_open g.R.Register.Fresh.shape (g.R.Runtime.view c.args.self.now.base) ls
          (scope_base ∷ g.R.Runtime.restores c.args.self.now.base),
    )
