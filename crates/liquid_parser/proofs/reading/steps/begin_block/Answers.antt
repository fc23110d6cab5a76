use Rattle.std.proofs.Common.{ap, ◌∙◌, map}
use Rattle.liquid_parser.specs.meaning.Handed.{place_in}
use Rattle.liquid_parser.proofs.StepLemmas.{opened_ok, placed_err}
use Rattle.liquid_parser.proofs.reading.steps.begin_block.Goals as goal

pub returns-in-Ok : goal.returns-in-Ok
returns-in-Ok g c source t h =
    let here = ap (λ s. place_in s c.args.tag.from.now) h.source_is ∙ ap (place_in source) h.from_is in
    opened_ok source t _ _ _ _ _ _ (c.in-Ok.ensures _ h.tokens_are) here (ap (map _) c.new.ensures.items)

pub returns-in-Err : goal.returns-in-Err
returns-in-Err g c source t h =
    let here = c.place_in.ensures ∙ (ap (λ s. place_in s c.args.tag.from.now) h.source_is ∙ ap (place_in source) h.from_is) in
    placed_err _ _ _ _ _ _ (c.in-Err.ensures _ h.tokens_are) c.or_place.ensures here
