use Rattle.std.proofs.Common.{take, map}
use Rattle.liquid_scopes.specs.steps.Layers.{LastGlobal}
use Rattle.liquid_scopes.specs.steps.LinkLayers.{layer_of}
use Rattle.liquid_scopes.proofs.chained_scopes.ChainedScopes.last_global.Given as goal

abbrev pub invariant-loop-i : goal.invariant-loop-i
invariant-loop-i g l = LastGlobal (map layer_of (take l.i l.self.links.items)) l.at
