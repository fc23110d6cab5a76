use Rattle.std.proofs.Common.{rules, ◌≡◌, refl, ◌∙◌}
use Rattle.liquid_c.specs.meaning.Turns.{begun}
use Rattle.liquid_c.proofs.TurnLemmas.{all_turns, later_turn, refused_turn}
use Rattle.liquid_c.proofs.each.refuse_each.Goals as goal

pub loop-place-init : goal.loop-place-init
loop-place-init c = record { turns = λ out. begun; later = refl; size = refl }

pub loop-place-preserved : goal.loop-place-preserved
loop-place-preserved c = record {
  turns =
      λ out. refused_turn (λ g. g.now) c.args.refusal out c.args.globals.now c.loop-place.outcomes c.loop-place.place (search rules)
      (search rules) c.requires.error c.requires.nothing (c.loop-place.invariant.turns out);
  later = later_turn c.loop-place.outcomes c.args.outcomes.now c.loop-place.place _ c.loop-place.invariant.later;
  size = search rules;
}

pub returns : goal.returns
returns c =
    let ends : c.loop-place.place ≡ c.fewer-place-end.result = search rules in
    λ out. all_turns (λ g. g.now) _ out out c.args.globals.now c.args.outcomes.now c.loop-place.outcomes 0 0 c.loop-place.place _
    (ends ∙ c.fewer-place-end.ensures) (c.loop-place.invariant.turns out) c.loop-place.invariant.later
