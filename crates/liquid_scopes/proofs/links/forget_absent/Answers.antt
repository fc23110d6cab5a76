use Rattle.std.proofs.Common.{ap, ◌∙◌}
use Rattle.std.specs.Prelude.{◌&&◌, not, nat_eq, is_none, bytes_eq}
use Rattle.liquid_scopes.specs.steps.LinkLayers.{layer_of}
use Rattle.liquid_scopes.specs.steps.Standing.{stands}
use Rattle.liquid_scopes.proofs.FlatLaws.{own_within, own_past, and_all}
use Rattle.liquid_scopes.proofs.links.forget_absent.Goals as goal

pub returns-in-Some : goal.returns-in-Some
returns-in-Some g c = λ q j.
    c.forget_absent.ensures q j
    ∙ ap (λ o. stands c.args.index.now.places q j && not ((bytes_eq c.args.name.now q && is_none o) && nat_eq j c.args.place))
    (own_within layer_of c.args.links.now c.args.place c.in-Some.link.now c.args.name.now c.in-Some.ensures.lookup.3.0
    c.in-Some.ensures.lookup.1)

pub returns-in-None : goal.returns-in-None
returns-in-None g c = λ q j.
    c.forget.ensures q j
    ∙ ap (λ b. stands c.args.index.now.places q j && not (b && nat_eq j c.args.place))
    (and_all (bytes_eq c.args.name.now q) ∙ ap (λ o. bytes_eq c.args.name.now q && is_none o)
    (own_past layer_of c.args.links.now c.args.place c.args.name.now c.in-None.ensures.lookup.3))
