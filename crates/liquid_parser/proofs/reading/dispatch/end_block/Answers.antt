use Rattle.std.proofs.Common.{◌≡◌, ◌∙◌, ap, sym, length, arith}
use Rattle.std.proofs.lemmas.List.{append-nil}
use Rattle.std.proofs.lemmas.Result.{err_from_is_err_and}
use Rattle.liquid_plugins.specs.meaning.NodesOf.{shapes_of}
use Rattle.liquid_parser.specs.steps.Views.{open_view, blocks_view}
use Rattle.liquid_parser.proofs.DispatchLemmas.{push_block, nothing_left}
use Rattle.liquid_parser.proofs.InnermostLemmas.{none_innermost, ended_ok, ended_err}
use Rattle.liquid_parser.proofs.reading.dispatch.end_block.Goals as goal

pub returns-in-None : goal.returns-in-None
returns-in-None g c source t h b blocks e =
    let before : c.args.state.now.open.items ≡ c.pop.new.self.items = c.in-None.ensures.items ∙ append-nil c.pop.new.self.items in
    let empty =
    nothing_left c.pop.new.self.items (λ some. (c.in-None.ensures.variant).1
    (omega (arith, some, ap length before, c.args.state.now.open.ok.0))) in
    absurd (none_innermost (open_view g.F.Filter.Meant.shape g.T.Node.Meant.shape g.B.Node.Meant.shape g.B.Plan.Meant.shape
    g.B.ParseBlock.block) c.args.state.now.open.items b blocks (before ∙ empty) e)

pub returns-in_ok-state-in-Some : goal.returns-in_ok-state-in-Some
returns-in_ok-state-in-Some g c source t h b blocks e =
    ended_ok source t b (open_view g.F.Filter.Meant.shape g.T.Node.Meant.shape g.B.Node.Meant.shape g.B.Plan.Meant.shape
    g.B.ParseBlock.block c.in-Some.block) blocks (blocks_view g.F.Filter.Meant.shape g.T.Node.Meant.shape g.B.Node.Meant.shape
    g.B.Plan.Meant.shape g.B.ParseBlock.block c.pop.new.self.items)
    (shapes_of g.F.Filter.Meant.shape g.T.Node.Meant.shape g.B.Node.Meant.shape c.args.state.now.nodes.items) _
    (sym (push_block (open_view g.F.Filter.Meant.shape g.T.Node.Meant.shape g.B.Node.Meant.shape g.B.Plan.Meant.shape g.B.ParseBlock.block)
    c.pop.new.self.items c.in-Some.block c.in-Some.ensures.items) ∙ e)
    (rw c.replace-nodes.ensures.value at c.in_ok-state-in-Some.ensures source t h)

pub returns-in_err-state-in-Some : goal.returns-in_err-state-in-Some
returns-in_err-state-in-Some g c source t h b blocks e =
    let p = err_from_is_err_and c.from_residual.result c.from_residual.ensures.1 in
    rw (p.1, p.2) (ended_err source t b (open_view g.F.Filter.Meant.shape g.T.Node.Meant.shape g.B.Node.Meant.shape g.B.Plan.Meant.shape
    g.B.ParseBlock.block c.in-Some.block) blocks (blocks_view g.F.Filter.Meant.shape g.T.Node.Meant.shape g.B.Node.Meant.shape
    g.B.Plan.Meant.shape g.B.ParseBlock.block c.pop.new.self.items)
    (shapes_of g.F.Filter.Meant.shape g.T.Node.Meant.shape g.B.Node.Meant.shape c.args.state.now.nodes.items) _
    (sym (push_block (open_view g.F.Filter.Meant.shape g.T.Node.Meant.shape g.B.Node.Meant.shape g.B.Plan.Meant.shape g.B.ParseBlock.block)
    c.pop.new.self.items c.in-Some.block c.in-Some.ensures.items) ∙ e)
    (rw c.replace-nodes.ensures.value at c.in_err-state-in-Some.ensures source t h))
