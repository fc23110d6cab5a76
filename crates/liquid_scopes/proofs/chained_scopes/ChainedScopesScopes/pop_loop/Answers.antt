use Rattle.std.proofs.Common.{◌∙◌, ap, [], ◌∷◌, map}
use Rattle.liquid_scopes.specs.steps.LinkLayers.{layer_of}
use Rattle.liquid_scopes.proofs.LayerLaws.{map_append, pops}
use Rattle.liquid_scopes.proofs.chained_scopes.ChainedScopesScopes.pop_loop.Goals as goal

pub returns-in-Some-clause-ends : goal.returns-in-Some-clause-ends
returns-in-Some-clause-ends g c =
    pops g.R.Register.Fresh.shape (g.R.Runtime.view c.args.self.now.base) (g.R.Runtime.view c.closing.new.base)
    (map layer_of c.args.self.now.links.items) (map layer_of c.pop.new.self.items) (layer_of c.in-Some.link)
    (g.R.Runtime.restores c.args.self.now.base) (g.R.Runtime.restores c.closing.new.base)
    (ap (map layer_of) c.in-Some.ensures.items ∙ map_append layer_of c.pop.new.self.items (c.in-Some.link ∷ []))
    c.closing.ensures.registers c.closing.ensures.ends c.closing.ensures.owes
