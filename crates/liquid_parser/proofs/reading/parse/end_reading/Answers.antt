use Rattle.std.proofs.Common.{ap}
use Rattle.liquid_plugins.specs.meaning.NodesOf.{shapes_of}
use Rattle.liquid_parser.specs.meaning.Reading.{ended, among}
use Rattle.liquid_parser.specs.steps.Views.{open_view}
use Rattle.liquid_parser.proofs.DispatchLemmas.{err_now, push_block}
use Rattle.liquid_parser.proofs.reading.parse.end_reading.Goals as goal

pub returns : goal.returns
returns g c =
    err_now _ _ _ (ap (λ bs. ended c.args.source.now (among bs (shapes_of g.F.Filter.Meant.shape g.T.Node.Meant.shape g.B.Node.Meant.shape
    c.args.state.nodes.items))) (push_block (open_view g.F.Filter.Meant.shape g.T.Node.Meant.shape g.B.Node.Meant.shape
    g.B.Plan.Meant.shape g.B.ParseBlock.block) c.pop.new.self.items c.in-Some.block c.in-Some.ensures.items))
    (rw (c.end_tag.ensures, g.met.B.ParseBlock.named c.in-Some.block.kind.now) at c.unclosed_error.ensures)
