use Rattle.std.proofs.Common.{map, sym, ap, ◌∙◌}
use Rattle.liquid_runtime.specs.meaning.NamesSeen.{lookup}
use Rattle.liquid_scopes.specs.steps.LinkLayers.{layer_of}
use Rattle.liquid_scopes.specs.steps.Standing.{own_at_top, last_seal}
use Rattle.liquid_scopes.proofs.TwoLooks.{sealed_away, above_seal, no_seal, base_sealed, base_seen}
use Rattle.liquid_scopes.proofs.table.name_lookup.look_listed.Goals as goal

pub returns-then-place-seal-clause-value : goal.returns-then-place-seal-clause-value
returns-then-place-seal-clause-value g c =
    let ls = map layer_of c.args.table.now.links.items in
    let q = c.args.name.now in
    let top = c.args.listed in
    sealed_away top (last_seal ls) c.in-Some.place c.in-Some-find_sandboxed.seal (own_at_top top ls q)
    (lookup (g.R.Runtime.view c.args.base.now) q) c.in-Some.is
    (sym c.find_sandboxed.ensures ∙ c.in-Some-find_sandboxed.is) c.if-place-seal.true

pub returns-else-place-seal-clause-value : goal.returns-else-place-seal-clause-value
returns-else-place-seal-clause-value g c =
    let ls = map layer_of c.args.table.now.links.items in
    let q = c.args.name.now in
    let top = c.args.listed in
    c.look_at.ensures.value ∙ ap (λ o. own_at_top o ls q) (sym c.in-Some.is)
    ∙ above_seal top (last_seal ls) c.in-Some.place c.in-Some-find_sandboxed.seal (own_at_top top ls q)
    (lookup (g.R.Runtime.view c.args.base.now) q) c.in-Some.is
    (sym c.find_sandboxed.ensures ∙ c.in-Some-find_sandboxed.is) c.if-place-seal.false

pub returns-in-None-find_sandboxed-clause-value : goal.returns-in-None-find_sandboxed-clause-value
returns-in-None-find_sandboxed-clause-value g c =
    let ls = map layer_of c.args.table.now.links.items in
    let q = c.args.name.now in
    let top = c.args.listed in
    c.look_at-in-None-find_sandboxed.ensures.value ∙ ap (λ o. own_at_top o ls q) (sym c.in-Some.is)
    ∙ no_seal top (last_seal ls) c.in-Some.place (own_at_top top ls q) (lookup (g.R.Runtime.view c.args.base.now) q) c.in-Some.is
    (sym c.find_sandboxed.ensures ∙ c.in-None-find_sandboxed.is)

pub returns-in-Some-find_sandboxed-2-clause-value : goal.returns-in-Some-find_sandboxed-2-clause-value
returns-in-Some-find_sandboxed-2-clause-value g c =
    let ls = map layer_of c.args.table.now.links.items in
    let q = c.args.name.now in
    let top = c.args.listed in
    base_sealed top (last_seal ls) c.in-Some-find_sandboxed-2.field-0 (own_at_top top ls q)
    (lookup (g.R.Runtime.view c.args.base.now) q) c.in-None.is (sym c.find_sandboxed-in-None.ensures ∙ c.in-Some-find_sandboxed-2.is)

pub returns-in-None-find_sandboxed-2-clause-value : goal.returns-in-None-find_sandboxed-2-clause-value
returns-in-None-find_sandboxed-2-clause-value g c =
    let ls = map layer_of c.args.table.now.links.items in
    let q = c.args.name.now in
    let top = c.args.listed in
    c.try_get_name.ensures ∙ base_seen top (last_seal ls) (own_at_top top ls q) (lookup (g.R.Runtime.view c.args.base.now) q) c.in-None.is
    (sym c.find_sandboxed-in-None.ensures ∙ c.in-None-find_sandboxed-2.is)
