use Rattle.std.proofs.Common.{◌≡◌, ℕ, List, length, map, take, drop}
use Rattle.liquid_c.specs.meaning.Turns.{InTurn}
use Rattle.liquid_c.specs.steps.Chosen.{IsRefused}
use Rattle.liquid_c.proofs.each.refuse_each.Given as goal

abbrev pub invariant-loop-place : goal.invariant-loop-place
invariant-loop-place l = record {
  turns : (out : List ℕ) → InTurn (IsRefused l.fn.refusal) out (map (λ g. g.now) (take l.place l.fn.globals))
      (take l.place l.outcomes) out 0 0;
  later : drop l.place l.outcomes ≡ drop l.place l.initial.outcomes;
  size : length l.outcomes ≡ length l.initial.outcomes;
}
