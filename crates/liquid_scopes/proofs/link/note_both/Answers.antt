use Rattle.std.specs.Prelude.{nat_eq}
use Rattle.std.specs.FinMap.{get}
use Rattle.liquid_runtime.specs.meaning.Maps.{names_of}
use Rattle.liquid_scopes.specs.steps.Standing.{stands}
use Rattle.liquid_scopes.proofs.IndexLaws.{both_partly}
use Rattle.liquid_scopes.proofs.link.note_both.Goals as goal

pub returns-clause-partly : goal.returns-clause-partly
returns-clause-partly c =
    λ q j. both_partly (stands c.args.index.now.places q j) (stands c.note_all.new.self.places q j)
    (stands c.note_all-2.new.self.places q j)
    (nat_eq j c.args.place) (get (names_of c.args.assigned.now) q) (get (names_of c.args.names.now) q) (c.note_all.ensures.partly q j)
    (c.note_all-2.ensures.partly q j)
