use Rattle.std.proofs.lemmas.Result.{err_from_is_err_and}
use Rattle.liquid_parser.specs.steps.Views.{open_view, blocks_view}
use Rattle.liquid_parser.proofs.EscapeLemmas.{escaped_ok, escaped_err, escaped_open}
use Rattle.liquid_parser.proofs.reading.escape.read_escaped.Goals as goal

pub returns-in-Some-clause-value : goal.returns-in-Some-clause-value
returns-in-Some-clause-value g c es cover =
    let e =
    rw (c.end_tag.ensures, c.start_tag.ensures, g.met.B.ParseBlock.named c.args.block.kind.now, c.nests.ensures) at
    c.in-Some.ensures.value es cover in (
      e.0,
      e.1,
      escaped_ok c.args.source.now (open_view g.F.Filter.Meant.shape g.T.Node.Meant.shape g.B.Node.Meant.shape g.B.Plan.Meant.shape
          g.B.ParseBlock.block c.args.block) (blocks_view g.F.Filter.Meant.shape g.T.Node.Meant.shape g.B.Node.Meant.shape
          g.B.Plan.Meant.shape
          g.B.ParseBlock.block c.args.state.now.open.items) _ e.0 c.in-Some.text.now _ e.2 c.in_ok-state-in-Some.ensures,
    )

pub returns-in_err-state-in-Some-clause-value : goal.returns-in_err-state-in-Some-clause-value
returns-in_err-state-in-Some-clause-value g c es cover =
    let e =
    rw (c.end_tag.ensures, c.start_tag.ensures, g.met.B.ParseBlock.named c.args.block.kind.now, c.nests.ensures) at
    c.in-Some.ensures.value es cover in
    let p = err_from_is_err_and c.from_residual.result c.from_residual.ensures.1 in
    rw (p.1, p.2) (escaped_err c.args.source.now (open_view g.F.Filter.Meant.shape g.T.Node.Meant.shape g.B.Node.Meant.shape
    g.B.Plan.Meant.shape g.B.ParseBlock.block c.args.block) (blocks_view g.F.Filter.Meant.shape g.T.Node.Meant.shape g.B.Node.Meant.shape
    g.B.Plan.Meant.shape g.B.ParseBlock.block c.args.state.now.open.items) _ _ e.0 c.in-Some.text.now e.2 c.in_err-state-in-Some.ensures)

pub returns-clause-value : goal.returns-clause-value
returns-clause-value g c es cover =
    let e =
    rw (c.end_tag.ensures, c.start_tag.ensures, g.met.B.ParseBlock.named c.args.block.kind.now, c.nests.ensures) at
    c.in-None.ensures.value es cover in
    escaped_open c.args.source.now (open_view g.F.Filter.Meant.shape g.T.Node.Meant.shape g.B.Node.Meant.shape g.B.Plan.Meant.shape
    g.B.ParseBlock.block c.args.block) (blocks_view g.F.Filter.Meant.shape g.T.Node.Meant.shape g.B.Node.Meant.shape g.B.Plan.Meant.shape
    g.B.ParseBlock.block c.args.state.now.open.items) _ _ e (rw (
      c.end_tag-in-None.ensures,
      g.met.B.ParseBlock.named c.args.block.kind.now,
    ) at c.unclosed_error.ensures)
