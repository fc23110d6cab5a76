use Rattle.std.proofs.Common.{rules, ◌≡◌, refl, ◌∙◌}
use Rattle.liquid_c.specs.meaning.Turns.{begun}
use Rattle.liquid_c.proofs.TurnLemmas.{all_turns, later_turn, next_turn}
use Rattle.liquid_c.proofs.each.render_turns.Goals as goal

pub loop-place-init : goal.loop-place-init
loop-place-init g c =
    record {
      again = λ options globals page comes. comes;
      turns = begun;
      fits = search rules;
      counted = search rules;
      later = refl;
      size = refl;
    }

pub loop-place-preserved : goal.loop-place-preserved
loop-place-preserved g c = record {
  again =
      λ options globals page comes. c.render_over-rendered.ensures.again options globals page
      (c.loop-place.invariant.again options globals page comes);
  turns =
      next_turn (λ g. g.now) _ c.args.out.now c.args.globals.now c.loop-place.outcomes c.loop-place.out _ c.loop-place.used
      c.loop-place.whole c.loop-place.place _ _ _ (search rules) (search rules) c.loop-place.invariant.turns
      c.finish_turn-outcome.ensures.front (λ page comes. c.finish_turn-outcome.ensures.leaves page
      (c.render_over-rendered.ensures.shows page (c.loop-place.invariant.again _ _ page comes))) c.one_if_whole-whole.ensures;
  fits = search rules;
  counted = search rules;
  later = later_turn c.loop-place.outcomes c.args.outcomes.now c.loop-place.place _ c.loop-place.invariant.later;
  size = search rules;
}

pub returns : goal.returns
returns g c =
    let ends : c.loop-place.place ≡ c.fewer-count.result = search rules in
    all_turns (λ g. g.now) _ c.args.out.now c.loop-place.out c.args.globals.now c.args.outcomes.now c.loop-place.outcomes c.loop-place.used
    c.loop-place.whole c.loop-place.place _ (ends ∙ c.fewer-count.ensures) c.loop-place.invariant.turns c.loop-place.invariant.later
