use Rattle.std.proofs.Common.{subst, map}
use Rattle.std.specs.Prelude.{IfOk}
use Rattle.liquid_runtime.specs.meaning.NamesSeen.{names_seen}
use Rattle.liquid_runtime.specs.meaning.Roots.{NamesOf}
use Rattle.liquid_scopes.specs.steps.Layers.{shown_over}
use Rattle.liquid_scopes.specs.steps.LinkLayers.{layer_of}
use Rattle.liquid_scopes.proofs.chained_scopes.ChainedScopesRuntime.roots.Goals as goal

pub returns : goal.returns
returns g c =
    let v = g.R.Runtime.view c.args.self.now.base in
    subst (λ xs. IfOk c.roots_over.result (λ names. NamesOf (names_seen (shown_over v (map layer_of xs))) names)) c.as_slice.ensures.value
    (c.roots_over.ensures v c.in_ok-below.ensures)
