use Rattle.std.proofs.Common.{arith, sym, subst, map, take}
use Rattle.liquid_runtime.specs.meaning.NamesSeen.{names_seen}
use Rattle.liquid_runtime.specs.meaning.Roots.{NamesOf}
use Rattle.std.proofs.lemmas.List.{take_all}
use Rattle.liquid_scopes.specs.steps.Layers.{shown_over}
use Rattle.liquid_scopes.specs.steps.LinkLayers.{layer_of}
use Rattle.liquid_scopes.proofs.LayerLaws.{shown_step}
use Rattle.liquid_scopes.proofs.LayerNames.{roots_layer}
use Rattle.liquid_scopes.proofs.links.roots_over.Goals as goal

pub loop-link-preserved : goal.loop-link-preserved
loop-link-preserved g c = λ v e.
    let xs = c.args.links.now in
    let i = c.loop-link.link-index in
    let l = c.link-item.result in
    subst (λ u. NamesOf (names_seen u) c.in_ok-names.names) (sym (shown_step layer_of v xs i l c.loop-link-test.true c.link-item.is))
    (roots_layer (layer_of l) (shown_over v (map layer_of (take i xs))) c.loop-link.names c.in_ok-names.names c.in_ok-names.ensures
    (c.loop-link.invariant v e))

pub returns : goal.returns
returns g c =
    λ v e. subst (λ xs. NamesOf (names_seen (shown_over v (map layer_of xs))) c.loop-link.names)
    (take_all c.loop-link.link-index c.args.links.now (omega (arith, c.loop-link-test.false))) (c.loop-link.invariant v e)
