use Rattle.std.proofs.Common.{ap, ◌∙◌, Ok, sym}
use Rattle.liquid_plugins.specs.meaning.NodesOf.{node_of}
use Rattle.liquid_parser.proofs.StepLemmas.{placed_ok, bare_block_shape, last_node}
use Rattle.liquid_parser.proofs.reading.steps.close_escaped.Goals as goal

pub returns-in_ok-push-in-Ok : goal.returns-in_ok-push-in-Ok
returns-in_ok-push-in-Ok g c =
    let made =
    bare_block_shape g.F.Filter.Meant.shape g.T.Node.Meant.shape g.B.Node.Meant.shape c.left_of.result c.in-Ok.made c.new.result
    c.new.ensures.items in
    placed_ok _ _ _ _ c.in-Ok.ensures
    ∙ ap (λ ns. Ok ns) (sym (last_node (node_of g.F.Filter.Meant.shape g.T.Node.Meant.shape g.B.Node.Meant.shape) c.args.block.before.items
    _ _ c.in_ok-push-in-Ok.ensures.items made))
