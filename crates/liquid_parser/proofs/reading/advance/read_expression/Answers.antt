use Rattle.std.proofs.Common.{Ok, refl, sym, ap, ◌∙◌}
use Rattle.std.proofs.lemmas.Result.{err_from_is_err_and}
use Rattle.liquid_plugins.specs.meaning.NodesOf.{node_of, shapes_of}
use Rattle.liquid_parser.specs.meaning.Reading.{among, node_added}
use Rattle.liquid_parser.specs.steps.Views.{blocks_view}
use Rattle.liquid_parser.proofs.StepLemmas.{last_node, added_err}
use Rattle.liquid_parser.proofs.reading.advance.read_expression.Goals as goal

pub returns : goal.returns
returns g c source chain is =
    ap (node_added (blocks_view g.F.Filter.Meant.shape g.T.Node.Meant.shape g.B.Node.Meant.shape g.B.Plan.Meant.shape g.B.ParseBlock.block
    c.args.state.now.open.items) (shapes_of g.F.Filter.Meant.shape g.T.Node.Meant.shape g.B.Node.Meant.shape
    c.args.state.now.nodes.items)) (c.in_ok-node.ensures source chain is)
    ∙ ap (λ ns. Ok (among (blocks_view g.F.Filter.Meant.shape g.T.Node.Meant.shape g.B.Node.Meant.shape g.B.Plan.Meant.shape
    g.B.ParseBlock.block c.args.state.now.open.items) ns)) (sym (last_node
    (node_of g.F.Filter.Meant.shape g.T.Node.Meant.shape g.B.Node.Meant.shape) c.args.state.now.nodes.items _ _ c.in_ok-push.ensures.items
    refl))

pub returns-in_err-node : goal.returns-in_err-node
returns-in_err-node g c source chain is =
    let p = err_from_is_err_and c.from_residual.result c.from_residual.ensures.1 in
    rw (p.1, p.2) (added_err (blocks_view g.F.Filter.Meant.shape g.T.Node.Meant.shape g.B.Node.Meant.shape g.B.Plan.Meant.shape
    g.B.ParseBlock.block c.args.state.now.open.items) (shapes_of g.F.Filter.Meant.shape g.T.Node.Meant.shape g.B.Node.Meant.shape
    c.args.state.now.nodes.items) _ _ (c.in_err-node.ensures source chain is))
