use Rattle.std.proofs.Common.{Ok, sym, ap, ◌∙◌, unwrap_or}
use Rattle.liquid_paths.specs.meaning.PathOf.{indexes_of}
use Rattle.liquid_value.specs.meaning.Tree.{nil}
use Rattle.liquid_runtime.proofs.Agreement.{lenient_get_agrees}
use Rattle.liquid_runtime.proofs.runtime.Runtime.get.Goals as goal

pub returns-in-Ok-Some-clause-gives : goal.returns-in-Ok-Some-clause-gives
returns-in-Ok-Some-clause-gives g c =
    lenient_get_agrees (g.Self.Runtime.view c.args.self.now) (indexes_of c.args.path.now) (sym c.is_lenient.ensures ∙ c.if-is_lenient.true)
    ∙ ap (λ o. Ok (unwrap_or o nil)) (sym (rw c.in-Ok-Some.field-0-is at c.in-Ok-Some.ensures.gives))

pub returns-in-Ok-None-clause-gives : goal.returns-in-Ok-None-clause-gives
returns-in-Ok-None-clause-gives g c =
    lenient_get_agrees (g.Self.Runtime.view c.args.self.now) (indexes_of c.args.path.now) (sym c.is_lenient.ensures ∙ c.if-is_lenient.true)
    ∙ ap (λ o. Ok (unwrap_or o nil)) (sym (rw c.in-Ok-None.field-0-is at c.in-Ok-None.ensures.gives))
    ∙ ap (λ t. Ok t) (sym c.default.ensures)
