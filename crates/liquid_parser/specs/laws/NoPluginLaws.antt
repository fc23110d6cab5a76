-- A result that changes nothing does not depend on hidden globals.
use Rattle.std.proofs.Common.{Ok, refl}
use Rattle.liquid_plugins.proofs.Hiding.{answers_hide}
use Rattle.liquid_plugins.specs.meaning.Discreet.{HidesGlobals}
use Rattle.liquid_plugins.specs.meaning.Turning.{answers}

pub nothing_hides : {A P Reg : Type 0} (answer : A) (progress : P) → HidesGlobals {A = A} {P = P} {Reg = Reg} (answers (Ok answer) progress)
nothing_hides answer progress = answers_hide (Ok answer) progress (λ v. v) (λ g v. refl)
