use Rattle.std.proofs.Common.{◌≡◌, [], arith, ap}
use Rattle.std.specs.Vec.{vec_len}
use Rattle.std.proofs.lemmas.Result.{err_from_is_err_and}
use Rattle.liquid_plugins.specs.meaning.NodesOf.{shapes_of}
use Rattle.liquid_parser.specs.steps.Views.{open_view}
use Rattle.liquid_parser.proofs.DispatchLemmas.{nothing_left}
use Rattle.liquid_parser.proofs.InnermostLemmas.{innermost, none_innermost, last_item, last_set, parted_ok, parted_err}
use Rattle.liquid_parser.proofs.reading.dispatch.end_part.Goals as goal

pub returns-in-None : goal.returns-in-None
returns-in-None g c source t h b blocks e =
    let empty =
    nothing_left c.args.state.now.open.items (λ some. (c.in-None.ensures.variant).1
    (omega (arith, some, c.args.state.now.open.ok.0))) in
    absurd (none_innermost (open_view g.F.Filter.Meant.shape g.T.Node.Meant.shape g.B.Node.Meant.shape g.B.Plan.Meant.shape
    g.B.ParseBlock.block) c.args.state.now.open.items b blocks empty e)

pub returns-in_ok-divide_block-in-Some : goal.returns-in_ok-divide_block-in-Some
returns-in_ok-divide_block-in-Some g c source t h b blocks e =
    let inner =
    innermost (open_view g.F.Filter.Meant.shape g.T.Node.Meant.shape g.B.Node.Meant.shape g.B.Plan.Meant.shape g.B.ParseBlock.block)
    c.args.state.now.open.items b blocks e in
    let empty : c.replace-nodes.new.dest.items ≡ [] = rw c.replace-nodes.ensures.after c.new.ensures.items in
    parted_ok source t b (open_view g.F.Filter.Meant.shape g.T.Node.Meant.shape g.B.Node.Meant.shape g.B.Plan.Meant.shape
    g.B.ParseBlock.block c.in-Some.block.now) blocks [] (shapes_of g.F.Filter.Meant.shape g.T.Node.Meant.shape g.B.Node.Meant.shape
    c.args.state.now.nodes.items) (open_view g.F.Filter.Meant.shape g.T.Node.Meant.shape g.B.Node.Meant.shape g.B.Plan.Meant.shape
    g.B.ParseBlock.block c.divide_block.new.block) _ _
    (last_item (open_view g.F.Filter.Meant.shape g.T.Node.Meant.shape g.B.Node.Meant.shape g.B.Plan.Meant.shape g.B.ParseBlock.block)
    c.args.state.now.open.items (vec_len c.args.state.now.open) b blocks c.args.state.now.open.ok.0 inner c.in-Some.block.now
    c.in-Some.ensures.value)
    (last_set (open_view g.F.Filter.Meant.shape g.T.Node.Meant.shape g.B.Node.Meant.shape g.B.Plan.Meant.shape g.B.ParseBlock.block)
    c.args.state.now.open.items (vec_len c.args.state.now.open) b blocks c.args.state.now.open.ok.0 inner c.divide_block.new.block)
    (ap (shapes_of g.F.Filter.Meant.shape g.T.Node.Meant.shape g.B.Node.Meant.shape) empty)
    (rw c.replace-nodes.ensures.value at c.in_ok-divide_block-in-Some.ensures source t h)

pub returns-in_err-divide_block-in-Some : goal.returns-in_err-divide_block-in-Some
returns-in_err-divide_block-in-Some g c source t h b blocks e =
    let inner =
    innermost (open_view g.F.Filter.Meant.shape g.T.Node.Meant.shape g.B.Node.Meant.shape g.B.Plan.Meant.shape g.B.ParseBlock.block)
    c.args.state.now.open.items b blocks e in
    let p = err_from_is_err_and c.from_residual.result c.from_residual.ensures.1 in
    rw (p.1, p.2) (parted_err source t b (open_view g.F.Filter.Meant.shape g.T.Node.Meant.shape g.B.Node.Meant.shape g.B.Plan.Meant.shape
    g.B.ParseBlock.block c.in-Some.block.now) blocks [] (shapes_of g.F.Filter.Meant.shape g.T.Node.Meant.shape g.B.Node.Meant.shape
    c.args.state.now.nodes.items) _
    (last_item (open_view g.F.Filter.Meant.shape g.T.Node.Meant.shape g.B.Node.Meant.shape g.B.Plan.Meant.shape g.B.ParseBlock.block)
    c.args.state.now.open.items (vec_len c.args.state.now.open) b blocks c.args.state.now.open.ok.0 inner c.in-Some.block.now
    c.in-Some.ensures.value)
    (rw c.replace-nodes.ensures.value at c.in_err-divide_block-in-Some.ensures source t h))
