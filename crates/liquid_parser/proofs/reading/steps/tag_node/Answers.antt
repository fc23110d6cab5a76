use Rattle.std.proofs.Common.{ap, ◌∙◌, Ok, sym}
use Rattle.liquid_parser.specs.meaning.Handed.{place_in}
use Rattle.liquid_parser.proofs.StepLemmas.{placed_ok, placed_err, tag_shape}
use Rattle.liquid_parser.proofs.reading.steps.tag_node.Goals as goal

pub returns-in-Ok : goal.returns-in-Ok
returns-in-Ok g c source t h =
    placed_ok _ _ _ _ (c.in-Ok.ensures _ h.tokens_are) ∙ ap (λ n. Ok n)
    (sym (tag_shape g.F.Filter.Meant.shape g.T.Node.Meant.shape g.B.Node.Meant.shape c.left_of.result c.in-Ok.made))

pub returns-in-Err : goal.returns-in-Err
returns-in-Err g c source t h =
    let here = c.place_in.ensures ∙ (ap (λ s. place_in s c.args.tag.from.now) h.source_is ∙ ap (place_in source) h.from_is) in
    placed_err _ _ _ _ _ _ (c.in-Err.ensures _ h.tokens_are) c.or_place.ensures here
