use Rattle.std.proofs.Common.{map, refl}
use Rattle.liquid_scopes.specs.steps.LinkLayers.{layer_of}
use Rattle.liquid_scopes.specs.steps.Standing.{last_seal}
use Rattle.liquid_scopes.proofs.Unlisted.{unlisted_gives, passed_unlisted, no_unlisted}
use Rattle.liquid_scopes.proofs.table.name_lookup.look_up.Goals as goal

pub returns-in-Some-look_at-clause-value : goal.returns-in-Some-look_at-clause-value
returns-in-Some-look_at-clause-value g c =
    let s = c.args.table.now in
    let ls = map layer_of s.links.items in
    unlisted_gives (g.R.Runtime.view c.args.base.now) ls c.args.name.now c.find_listed-listed.result
    (last_seal ls) s.unlisted c.unlisted_over.result c.in-Some.place _ c.unlisted_over.ensures c.in-Some.is c.find_listed-listed.ensures
    refl
    c.in-Some-look_at.ensures.value refl

pub returns-in-None-look_at-clause-value : goal.returns-in-None-look_at-clause-value
returns-in-None-look_at-clause-value g c =
    let s = c.args.table.now in
    let ls = map layer_of s.links.items in
    passed_unlisted (g.R.Runtime.view c.args.base.now) ls c.args.name.now c.find_listed-listed.result
    (last_seal ls) s.unlisted c.unlisted_over.result c.in-Some.place _ c.unlisted_over.ensures c.in-Some.is c.find_listed-listed.ensures
    refl
    c.in-None-look_at.ensures.value c.look_listed.ensures.value

pub returns-in-None-clause-value : goal.returns-in-None-clause-value
returns-in-None-clause-value g c =
    let s = c.args.table.now in
    let ls = map layer_of s.links.items in
    no_unlisted (g.R.Runtime.view c.args.base.now) ls c.args.name.now c.find_listed-listed.result
    (last_seal ls) s.unlisted c.unlisted_over.result _ c.unlisted_over.ensures c.in-None.is c.find_listed-listed.ensures refl
    c.look_listed-in-None.ensures.value
