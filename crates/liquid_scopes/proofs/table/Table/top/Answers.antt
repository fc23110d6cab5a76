use Rattle.std.proofs.Common.{map, sym, ap}
use Rattle.std.specs.Prelude.{is_some}
use Rattle.liquid_scopes.specs.steps.LinkLayers.{layer_of}
use Rattle.liquid_scopes.proofs.Sealed.{sealed_here, sealed_past, sealed_unasked}
use Rattle.liquid_scopes.proofs.table.Table.top.Goals as goal

pub returns-in-Some-look_at-clause-seals : goal.returns-in-Some-look_at-clause-seals
returns-in-Some-look_at-clause-seals g c = λ v.
    let s = c.args.self.now in
    sealed_here v (map layer_of s.links.items) c.args.name.now c.find_listed-listed.result s.unlisted c.unlisted_over.result c.in-Some.place
    c.unlisted_over.ensures c.in-Some.is c.find_listed-listed.ensures (sym (ap is_some c.in-Some-look_at.ensures.value))

pub returns-in-None-look_at-clause-seals : goal.returns-in-None-look_at-clause-seals
returns-in-None-look_at-clause-seals g c = λ v.
    let s = c.args.self.now in
    sealed_past v (map layer_of s.links.items) c.args.name.now c.find_listed-listed.result s.unlisted c.unlisted_over.result c.in-Some.place
    c.unlisted_over.ensures c.in-Some.is c.find_listed-listed.ensures (sym (ap is_some c.in-None-look_at.ensures.value))

pub returns-in-None-clause-seals : goal.returns-in-None-clause-seals
returns-in-None-clause-seals g c = λ v.
    let s = c.args.self.now in
    sealed_unasked v (map layer_of s.links.items) c.args.name.now c.find_listed-listed.result s.unlisted c.unlisted_over.result
    c.unlisted_over.ensures c.in-None.is c.find_listed-listed.ensures
