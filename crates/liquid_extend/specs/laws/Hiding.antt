-- Nodes of two types do not depend on hidden globals where neither type does.
use Rattle.std.proofs.Common.{Ok, refl, ap}
use Rattle.liquid_plugins.specs.meaning.Discreet.{Discreet, HidesGlobals}
use Rattle.liquid_plugins.specs.meaning.Turns.{end_turn, NodeMeaning}
use Rattle.liquid_plugins.proofs.Hiding.{answers_hide}
use Rattle.liquid_extend.specs.declared.beside.one_of.Beside.{Beside}
use Rattle.liquid_extend.specs.declared.beside.one_of.Beside.TheVariants.{Library, Own}
use Rattle.liquid_extend.specs.meaning.Nodes.{nodes_beside, starts, starts_as, takes, takes_as}

module _ {A B P Q Reg : Type 0} (m : NodeMeaning A P Reg) (n : NodeMeaning B Q Reg) (library : Discreet m) (own : Discreet n) where
  start_hides : (x : Beside A B) → HidesGlobals (starts m n x)
  start_hides (Library x) g v = ap (starts_as (λ p. Library p)) (library.start x g v)
  start_hides (Own x) g v = ap (starts_as (λ p. Own p)) (own.start x g v)

  turn_hides : (x : Beside A B) (p : Beside P Q) → HidesGlobals (takes m n x p)
  turn_hides (Library x) (Library p) g v = ap (takes_as (λ q. Library q)) (library.turn x p g v)
  turn_hides (Library x) (Own p) g v = answers_hide (Ok end_turn) (Own p) (λ w. w) (λ h w. refl) g v
  turn_hides (Own x) (Library p) g v = answers_hide (Ok end_turn) (Library p) (λ w. w) (λ h w. refl) g v
  turn_hides (Own x) (Own p) g v = ap (takes_as (λ q. Own q)) (own.turn x p g v)

  discreet_beside : Discreet (nodes_beside m n)
  discreet_beside = record { start = start_hides; turn = turn_hides }

pub hides_beside : {A B P Q Reg : Type 0} {m : NodeMeaning A P Reg} {n : NodeMeaning B Q Reg} → Discreet m → Discreet n
    → Discreet (nodes_beside m n)
hides_beside {m = m} {n = n} library own = discreet_beside m n library own
