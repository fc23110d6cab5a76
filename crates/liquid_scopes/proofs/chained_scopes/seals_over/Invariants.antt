use Rattle.std.proofs.Common.{◌≡◌, take, map}
use Rattle.liquid_runtime.specs.meaning.NamesSeen.{comes_from_seal}
use Rattle.liquid_runtime.specs.meaning.View.{View}
use Rattle.liquid_scopes.specs.steps.Layers.{shown_over}
use Rattle.liquid_scopes.specs.steps.LinkLayers.{layer_of}
use Rattle.liquid_scopes.proofs.chained_scopes.seals_over.Given as goal

abbrev pub invariant-loop-link : goal.invariant-loop-link
invariant-loop-link g l =
    (v : View g.row.V-Shape.Denot) → l.below ≡ comes_from_seal v l.name
    → l.sealed ≡ comes_from_seal (shown_over v (map layer_of (take l.link-index l.links))) l.name
