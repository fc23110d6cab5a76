use Rattle.std.proofs.Common.{sym, ◌∙◌, subst, arith, ◌+◌, ◌<◌, length, map, take}
use Rattle.liquid_scopes.specs.steps.Layers.{LastGlobal}
use Rattle.liquid_scopes.specs.steps.LinkLayers.{layer_of}
use Rattle.liquid_scopes.proofs.LayerLaws.{last_step, last_taken}
use Rattle.liquid_scopes.proofs.chained_scopes.ChainedScopes.last_global.Goals as goal
use Rattle.liquid_scopes.proofs.chained_scopes.ChainedScopes.last_global.Goals.{then-is_global, else-is_global}

pub loop-i-preserved : goal.loop-i-preserved
loop-i-preserved g c =
    let xs = c.args.self.now.links.items in
    let i = c.loop-i.i in
    let l = c.index.result.now in
    let h : i < length xs = omega (arith, c.len-i-end.ensures, c.args.self.now.links.ok.0) in
    elim c.if-is_global.branch [
      | then-is_global w ↦ subst (λ o. LastGlobal (map layer_of (take (i + 1) xs)) o) (sym w.at-is)
          (last_taken layer_of xs i l h c.index.ensures (sym c.is_global.ensures ∙ w.if-is_global.true))
      | else-is_global w ↦ subst (λ o. LastGlobal (map layer_of (take (i + 1) xs)) o) (sym w.at-is)
          (last_step layer_of xs i l c.loop-i.at h c.index.ensures c.loop-i.invariant (sym c.is_global.ensures ∙ w.if-is_global.false))
    ]
