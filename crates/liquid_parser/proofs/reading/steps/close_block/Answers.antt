use Rattle.std.proofs.Common.{◌≡◌, arith, ap, ◌∙◌, map, length}
use Rattle.std.proofs.lemmas.List.{map_push}
use Rattle.std.proofs.lemmas.Result.{err_from_is_err_and}
use Rattle.liquid_plugins.specs.meaning.NodesOf.{node_of, shapes_of}
use Rattle.liquid_parser.specs.meaning.Reading.{block_with}
use Rattle.liquid_parser.specs.steps.Views.{open_view}
use Rattle.liquid_parser.proofs.StepLemmas.{closed_ok, closed_err, closed_token, block_shape, count_parts, last_node}
use Rattle.liquid_parser.proofs.reading.steps.close_block.Goals as goal

pub returns-in_err-expect_nothing : goal.returns-in_err-expect_nothing
returns-in_err-expect_nothing g c source t h =
    let p = err_from_is_err_and c.from_residual.result c.from_residual.ensures.1 in
    rw (p.1, p.2) (closed_token source t (open_view g.F.Filter.Meant.shape g.T.Node.Meant.shape g.B.Node.Meant.shape g.B.Plan.Meant.shape
    g.B.ParseBlock.block c.args.block) (shapes_of g.F.Filter.Meant.shape g.T.Node.Meant.shape g.B.Node.Meant.shape c.args.nodes.items) _
    (c.in_err-expect_nothing.ensures _ h.tokens_are))

pub returns-in_ok-push-in-Ok : goal.returns-in_ok-push-in-Ok
returns-in_ok-push-in-Ok g c source t h =
    let held : c.len.result ≡ length c.push.new.self.items = grind (arith, c.push.new.self.ok.0, c.len.ensures) in
    let made = block_shape g.F.Filter.Meant.shape g.T.Node.Meant.shape g.B.Node.Meant.shape c.left_of.result c.in-Ok.made c.push.new.self
    ∙ ap (block_with (g.B.Node.Meant.shape c.in-Ok.made)) (ap (map _) c.in_ok-push.ensures.items
    ∙ map_push _ c.args.block.parts.items c.args.nodes) in
    closed_ok source t (open_view g.F.Filter.Meant.shape g.T.Node.Meant.shape g.B.Node.Meant.shape g.B.Plan.Meant.shape g.B.ParseBlock.block
    c.args.block) (shapes_of g.F.Filter.Meant.shape g.T.Node.Meant.shape g.B.Node.Meant.shape c.args.nodes.items) _ c.len.result _
    (c.in_ok-expect_nothing.ensures _ h.tokens_are) c.in-Ok.ensures
    (held ∙ count_parts _ c.args.block.parts.items c.args.nodes c.in_ok-push.ensures.items)
    (last_node (node_of g.F.Filter.Meant.shape g.T.Node.Meant.shape g.B.Node.Meant.shape) c.args.block.before.items _ _
    c.in_ok-push-in-Ok.ensures.items made)

pub returns-in-Err : goal.returns-in-Err
returns-in-Err g c source t h =
    let held : c.len.result ≡ length c.push.new.self.items = grind (arith, c.push.new.self.ok.0, c.len.ensures) in
    closed_err source t (open_view g.F.Filter.Meant.shape g.T.Node.Meant.shape g.B.Node.Meant.shape g.B.Plan.Meant.shape
    g.B.ParseBlock.block c.args.block) (shapes_of g.F.Filter.Meant.shape g.T.Node.Meant.shape g.B.Node.Meant.shape c.args.nodes.items)
    c.len.result _ _ _ (c.in_ok-expect_nothing.ensures _ h.tokens_are)
    (held ∙ count_parts _ c.args.block.parts.items c.args.nodes c.in_ok-push.ensures.items) c.in-Err.ensures c.or_place.ensures
    c.place_in.ensures
