use Rattle.std.proofs.Common.{◌∷◌, ◌++◌, [], Ok, ap, sym, ◌∙◌, map}
use Rattle.std.proofs.lemmas.List.{map_push}
use Rattle.liquid_plugins.specs.meaning.NodesOf.{shapes_of}
use Rattle.liquid_parser.specs.meaning.Handed.{handed, place_in}
use Rattle.liquid_parser.specs.meaning.Reading.{name_place}
use Rattle.liquid_parser.specs.steps.Views.{open_view}
use Rattle.liquid_parser.proofs.StepLemmas.{placed_ok, placed_err}
use Rattle.liquid_parser.proofs.reading.steps.divide_block.Goals as goal

pub returns-in_ok-push-in-Ok : goal.returns-in_ok-push-in-Ok
returns-in_ok-push-in-Ok g c source t h =
    let b =
    open_view g.F.Filter.Meant.shape g.T.Node.Meant.shape g.B.Node.Meant.shape g.B.Plan.Meant.shape g.B.ParseBlock.block
    c.args.block.now in
    let nodes = shapes_of g.F.Filter.Meant.shape g.T.Node.Meant.shape g.B.Node.Meant.shape c.args.nodes.items in
    let parts =
    ap (map (λ v. shapes_of g.F.Filter.Meant.shape g.T.Node.Meant.shape g.B.Node.Meant.shape v.items)) c.in_ok-push-in-Ok.ensures.items
    ∙ map_push _ c.args.block.now.parts.items c.args.nodes in
    placed_ok (place_in source (name_place t)) (b.kind.means.divide b.plan t.0 (handed source t))
    (λ plan. Ok (record b { plan = plan; parts = b.parts ++ nodes ∷ [] })) _ (rw h.name_is at c.in-Ok.ensures _ h.tokens_are)
    ∙ ap (λ ps. Ok (record b { plan = g.B.Plan.Meant.shape c.divide.new.plan; parts = ps })) (sym parts)

pub returns-in-Err : goal.returns-in-Err
returns-in-Err g c source t h =
    let here = c.place_in.ensures ∙ (ap (λ s. place_in s c.args.tag.from.now) h.source_is ∙ ap (place_in source) h.from_is) in
    placed_err _ _ _ _ _ _ (rw h.name_is at c.in-Err.ensures _ h.tokens_are) c.or_place.ensures here
