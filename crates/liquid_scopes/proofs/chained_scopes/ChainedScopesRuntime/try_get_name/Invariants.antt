use Rattle.std.proofs.Common.{◌≡◌, take, map, option_map}
use Rattle.liquid_runtime.specs.meaning.LoopNames.{seen_tree}
use Rattle.liquid_runtime.specs.meaning.NamesSeen.{lookup}
use Rattle.liquid_scopes.specs.steps.Layers.{shown_over}
use Rattle.liquid_scopes.specs.steps.LinkLayers.{layer_of}
use Rattle.liquid_scopes.proofs.chained_scopes.ChainedScopesRuntime.try_get_name.Given as goal

abbrev pub invariant-loop-link : goal.invariant-loop-link
invariant-loop-link g l =
    option_map seen_tree l.found ≡ lookup (shown_over (g.R.Runtime.view l.self.base)
    (map layer_of (take l.link-index l.link-items))) l.name
