use Rattle.std.proofs.Common.{◌≡◌, take, map, option_map}
use Rattle.liquid_runtime.specs.meaning.View.{View}
use Rattle.liquid_scopes.specs.steps.Layers.{shown_over}
use Rattle.liquid_scopes.specs.steps.LinkLayers.{layer_of}
use Rattle.liquid_scopes.proofs.links.name_over.Given as goal

abbrev pub invariant-loop-link : goal.invariant-loop-link
invariant-loop-link g l =
    (v : View g.row.V-Shape.Denot) → option_map (λ r. r.now) l.below ≡ v.name
    → option_map (λ r. r.now) l.name ≡ (shown_over v (map layer_of (take l.link-index l.links))).name
