use Rattle.std.specs.Prelude.{nat_eq}
use Rattle.std.specs.FinMap.{get}
use Rattle.liquid_runtime.specs.meaning.Maps.{names_of}
use Rattle.liquid_scopes.specs.steps.Standing.{stands}
use Rattle.liquid_scopes.proofs.IndexLaws.{both_forgotten}
use Rattle.liquid_scopes.proofs.link.forget_both.Goals as goal

pub returns : goal.returns
returns c =
    λ q j. both_forgotten (stands c.args.index.now.places q j) (stands c.forget_all.new.self.places q j)
    (stands c.forget_all-2.new.self.places q j)
    (nat_eq j c.args.place) (get (names_of c.args.assigned.now) q) (get (names_of c.args.names.now) q) (c.forget_all.ensures q j)
    (c.forget_all-2.ensures q j)
