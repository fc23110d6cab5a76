use Rattle.std.proofs.Common.{ap, ◌∙◌, arith}
use Rattle.std.specs.Prelude.{take}
use Rattle.std.proofs.Math.Seq.{take-length}
use Rattle.liquid_filters.specs.meaning.Registered.{register, registered}
use Rattle.liquid_filters.proofs.Registering.{one_more}
use Rattle.liquid_filters.proofs.registry.register_all.Goals as goal

pub loop-kind-preserved : goal.loop-kind-preserved
loop-kind-preserved g c =
    let sense = g.K.FilterKind.sense in
    c.in_ok-register.ensures.ok
    ∙ ap (λ f. register sense f c.kind-item.result) c.loop-kind.invariant
    ∙ one_more sense c.args.filters.now c.args.kinds.now c.loop-kind.kind-index c.kind-item.result c.loop-kind-test.true
    c.kind-item.is

pub returns-clause-ok : goal.returns-clause-ok
returns-clause-ok g c =
    let sense = g.K.FilterKind.sense in
    c.loop-kind.invariant
    ∙ ap (λ n. registered sense c.args.filters.now (take n c.args.kinds.now)) {x = c.loop-kind.kind-index} (omega arith)
    ∙ ap (registered sense c.args.filters.now) (take-length c.args.kinds.now)
