use Rattle.std.proofs.Common.{take, map}
use Rattle.liquid_runtime.specs.meaning.NamesSeen.{names_seen}
use Rattle.liquid_runtime.specs.meaning.Roots.{NamesOf}
use Rattle.liquid_runtime.specs.meaning.View.{View}
use Rattle.liquid_scopes.specs.steps.Layers.{shown_over}
use Rattle.liquid_scopes.specs.steps.LinkLayers.{layer_of}
use Rattle.liquid_scopes.proofs.links.roots_over.Given as goal

abbrev pub invariant-loop-link : goal.invariant-loop-link
invariant-loop-link g l =
    (v : View g.row.V-Shape.Denot) → NamesOf (names_seen v) l.fn.below
    → NamesOf (names_seen (shown_over v (map layer_of (take l.link-index l.links)))) l.names
