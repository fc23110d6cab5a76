use Rattle.std.proofs.Common.{◌≡◌, ◌+◌, true, false, arith, ap, ◌∙◌, [], length, Ok, sym}
use Rattle.std.specs.Prelude.{nat_lt}
use Rattle.std.proofs.lemmas.Bool.Decides.{nat_tests}
use Rattle.std.proofs.lemmas.Result.{err_from_is_err_and}
use Rattle.liquid_plugins.specs.meaning.NodesOf.{shapes_of}
use Rattle.liquid_parser.specs.meaning.Plugins.{language_of, registry_of}
use Rattle.liquid_parser.specs.meaning.Reading.{among, begun, entered}
use Rattle.liquid_parser.specs.steps.Views.{open_view, blocks_view}
use Rattle.liquid_parser.proofs.DispatchLemmas.{then_ok, then_err, err_now, deep_begun, room_begun, push_block, blocks_count}
use Rattle.liquid_parser.proofs.reading.dispatch.open_block.Goals as goal

pub returns-then-len-saturating_sub : goal.returns-then-len-saturating_sub
returns-then-len-saturating_sub g c source t h =
    let room : nat_lt (c.args.outside + length (blocks_view g.F.Filter.Meant.shape g.T.Node.Meant.shape g.B.Node.Meant.shape
    g.B.Plan.Meant.shape g.B.ParseBlock.block c.args.state.now.open.items)) 100 ≡ false = grind (
      arith,
      nat_tests,
      blocks_count (open_view g.F.Filter.Meant.shape g.T.Node.Meant.shape g.B.Node.Meant.shape g.B.Plan.Meant.shape
          g.B.ParseBlock.block) c.args.state.now.open.items,
      c.args.state.now.open.ok.0,
      c.len.ensures,
      c.saturating_sub.ensures,
      c.if-len-saturating_sub.true,
    ) in
    err_now _ _ _ (deep_begun (language_of g.F.ParseFilter.makes g.T.ParseTag.gives g.B.ParseBlock.block c.args.language.now) source
    c.args.outside t (blocks_view g.F.Filter.Meant.shape g.T.Node.Meant.shape g.B.Node.Meant.shape g.B.Plan.Meant.shape
    g.B.ParseBlock.block c.args.state.now.open.items) (shapes_of g.F.Filter.Meant.shape g.T.Node.Meant.shape g.B.Node.Meant.shape
    c.args.state.now.nodes.items) (g.B.ParseBlock.block c.args.kind.now) room)
    (rw (h.source_is, h.from_is) at c.error_at.ensures)

pub returns-then-escapes : goal.returns-then-escapes
returns-then-escapes g c source t h =
    let room : nat_lt (c.args.outside + length (blocks_view g.F.Filter.Meant.shape g.T.Node.Meant.shape g.B.Node.Meant.shape
    g.B.Plan.Meant.shape g.B.ParseBlock.block c.args.state.now.open.items)) 100 ≡ true = grind (
      arith,
      nat_tests,
      blocks_count (open_view g.F.Filter.Meant.shape g.T.Node.Meant.shape g.B.Node.Meant.shape g.B.Plan.Meant.shape
          g.B.ParseBlock.block) c.args.state.now.open.items,
      c.args.state.now.open.ok.0,
      c.len.ensures,
      c.saturating_sub.ensures,
      c.if-len-saturating_sub.false,
    ) in
    then_ok _ (begun source t (registry_of g.F.ParseFilter.makes c.args.language.now.filters) (g.B.ParseBlock.block c.args.kind.now)
    (shapes_of g.F.Filter.Meant.shape g.T.Node.Meant.shape g.B.Node.Meant.shape c.args.state.now.nodes.items))
    (λ b. Ok (entered (g.B.ParseBlock.block c.args.kind.now).means.escapes b
    (blocks_view g.F.Filter.Meant.shape g.T.Node.Meant.shape g.B.Node.Meant.shape g.B.Plan.Meant.shape g.B.ParseBlock.block
    c.args.state.now.open.items))) _
    (room_begun (language_of g.F.ParseFilter.makes g.T.ParseTag.gives g.B.ParseBlock.block c.args.language.now) source c.args.outside t
    (blocks_view g.F.Filter.Meant.shape g.T.Node.Meant.shape g.B.Node.Meant.shape g.B.Plan.Meant.shape g.B.ParseBlock.block
    c.args.state.now.open.items) (shapes_of g.F.Filter.Meant.shape g.T.Node.Meant.shape g.B.Node.Meant.shape c.args.state.now.nodes.items)
    (g.B.ParseBlock.block c.args.kind.now) room) (rw c.replace-nodes.ensures.value at c.in_ok-block.ensures source t h)
    ∙ ap (λ e. Ok (entered e (open_view g.F.Filter.Meant.shape g.T.Node.Meant.shape g.B.Node.Meant.shape g.B.Plan.Meant.shape
    g.B.ParseBlock.block c.in_ok-block.block) (blocks_view g.F.Filter.Meant.shape g.T.Node.Meant.shape g.B.Node.Meant.shape
    g.B.Plan.Meant.shape g.B.ParseBlock.block c.args.state.now.open.items))) (sym c.escapes.ensures ∙ c.if-escapes.true)

pub returns : goal.returns
returns g c source t h =
    let room : nat_lt (c.args.outside + length (blocks_view g.F.Filter.Meant.shape g.T.Node.Meant.shape g.B.Node.Meant.shape
    g.B.Plan.Meant.shape g.B.ParseBlock.block c.args.state.now.open.items)) 100 ≡ true = grind (
      arith,
      nat_tests,
      blocks_count (open_view g.F.Filter.Meant.shape g.T.Node.Meant.shape g.B.Node.Meant.shape g.B.Plan.Meant.shape
          g.B.ParseBlock.block) c.args.state.now.open.items,
      c.args.state.now.open.ok.0,
      c.len.ensures,
      c.saturating_sub.ensures,
      c.if-len-saturating_sub.false,
    ) in
    let empty : c.replace-nodes.new.dest.items ≡ [] = rw c.replace-nodes.ensures.after c.new.ensures.items in
    then_ok _ (begun source t (registry_of g.F.ParseFilter.makes c.args.language.now.filters) (g.B.ParseBlock.block c.args.kind.now)
    (shapes_of g.F.Filter.Meant.shape g.T.Node.Meant.shape g.B.Node.Meant.shape c.args.state.now.nodes.items))
    (λ b. Ok (entered (g.B.ParseBlock.block c.args.kind.now).means.escapes b
    (blocks_view g.F.Filter.Meant.shape g.T.Node.Meant.shape g.B.Node.Meant.shape g.B.Plan.Meant.shape g.B.ParseBlock.block
    c.args.state.now.open.items))) _
    (room_begun (language_of g.F.ParseFilter.makes g.T.ParseTag.gives g.B.ParseBlock.block c.args.language.now) source c.args.outside t
    (blocks_view g.F.Filter.Meant.shape g.T.Node.Meant.shape g.B.Node.Meant.shape g.B.Plan.Meant.shape g.B.ParseBlock.block
    c.args.state.now.open.items) (shapes_of g.F.Filter.Meant.shape g.T.Node.Meant.shape g.B.Node.Meant.shape c.args.state.now.nodes.items)
    (g.B.ParseBlock.block c.args.kind.now) room) (rw c.replace-nodes.ensures.value at c.in_ok-block.ensures source t h)
    ∙ (ap (λ e. Ok (entered e (open_view g.F.Filter.Meant.shape g.T.Node.Meant.shape g.B.Node.Meant.shape g.B.Plan.Meant.shape
    g.B.ParseBlock.block c.in_ok-block.block) (blocks_view g.F.Filter.Meant.shape g.T.Node.Meant.shape g.B.Node.Meant.shape
    g.B.Plan.Meant.shape g.B.ParseBlock.block c.args.state.now.open.items))) (sym c.escapes.ensures ∙ c.if-escapes.false)
    ∙ (ap (λ bs. Ok (among bs [])) (sym (push_block (open_view g.F.Filter.Meant.shape g.T.Node.Meant.shape g.B.Node.Meant.shape
    g.B.Plan.Meant.shape g.B.ParseBlock.block) c.args.state.now.open.items c.in_ok-block.block c.in_ok-push.ensures.items))
    ∙ ap (λ ns. Ok (among (blocks_view g.F.Filter.Meant.shape g.T.Node.Meant.shape g.B.Node.Meant.shape g.B.Plan.Meant.shape
    g.B.ParseBlock.block c.push.new.self.items) (shapes_of g.F.Filter.Meant.shape g.T.Node.Meant.shape g.B.Node.Meant.shape ns)))
    (sym empty)))

pub returns-in_err-block : goal.returns-in_err-block
returns-in_err-block g c source t h =
    let room : nat_lt (c.args.outside + length (blocks_view g.F.Filter.Meant.shape g.T.Node.Meant.shape g.B.Node.Meant.shape
    g.B.Plan.Meant.shape g.B.ParseBlock.block c.args.state.now.open.items)) 100 ≡ true = grind (
      arith,
      nat_tests,
      blocks_count (open_view g.F.Filter.Meant.shape g.T.Node.Meant.shape g.B.Node.Meant.shape g.B.Plan.Meant.shape
          g.B.ParseBlock.block) c.args.state.now.open.items,
      c.args.state.now.open.ok.0,
      c.len.ensures,
      c.saturating_sub.ensures,
      c.if-len-saturating_sub.false,
    ) in
    let p = err_from_is_err_and c.from_residual.result c.from_residual.ensures.1 in
    rw (p.1, p.2) (then_err _ _ (begun source t (registry_of g.F.ParseFilter.makes c.args.language.now.filters)
    (g.B.ParseBlock.block c.args.kind.now) (shapes_of g.F.Filter.Meant.shape g.T.Node.Meant.shape g.B.Node.Meant.shape
    c.args.state.now.nodes.items)) (λ b. Ok (entered (g.B.ParseBlock.block c.args.kind.now).means.escapes b
    (blocks_view g.F.Filter.Meant.shape g.T.Node.Meant.shape g.B.Node.Meant.shape g.B.Plan.Meant.shape g.B.ParseBlock.block
    c.args.state.now.open.items)))
    (room_begun (language_of g.F.ParseFilter.makes g.T.ParseTag.gives g.B.ParseBlock.block c.args.language.now) source c.args.outside t
    (blocks_view g.F.Filter.Meant.shape g.T.Node.Meant.shape g.B.Node.Meant.shape g.B.Plan.Meant.shape g.B.ParseBlock.block
    c.args.state.now.open.items) (shapes_of g.F.Filter.Meant.shape g.T.Node.Meant.shape g.B.Node.Meant.shape c.args.state.now.nodes.items)
    (g.B.ParseBlock.block c.args.kind.now) room) (rw c.replace-nodes.ensures.value at c.in_err-block.ensures source t h))
