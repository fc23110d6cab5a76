use Rattle.std.proofs.Common.{◌≡◌, ◌<◌, [], ap, refl, rules, arith, length}
use Rattle.std.proofs.lemmas.List.{length-append}
use Rattle.std.proofs.lemmas.Result.{err_from_is_err_and}
use Rattle.liquid_plugins.specs.meaning.NodesOf.{shapes_of}
use Rattle.liquid_parser.specs.meaning.Plugins.{language_of}
use Rattle.liquid_parser.specs.steps.Views.{open_view, blocks_view, state_view}
use Rattle.liquid_parser.proofs.DispatchLemmas.{blocks_count}
use Rattle.liquid_parser.proofs.ClosingLemmas.{
  Closing-on,
  Closing-refused,
  Closing-unchecked,
  Closing-end,
  Closing-unclosed,
  Closing-closed,
  further,
  empty_list,
}
use Rattle.liquid_parser.proofs.reading.closing.read_until_closed.Goals as goal

pub elements-init : goal.elements-init
elements-init g c = (search rules, ([], refl), λ es cover. (es, cover, refl))

pub returns-in_err-element-in-Some-clause-value : goal.returns-in_err-element-in-Some-clause-value
returns-in_err-element-in-Some-clause-value g c =
    let some : 0 < length (blocks_view g.F.Filter.Meant.shape g.T.Node.Meant.shape g.B.Node.Meant.shape g.B.Plan.Meant.shape
    g.B.ParseBlock.block c.elements.state.open.items) = grind (
      arith,
      (blocks_count (open_view g.F.Filter.Meant.shape g.T.Node.Meant.shape g.B.Node.Meant.shape g.B.Plan.Meant.shape g.B.ParseBlock.block)
          c.elements.state.open.items),
      c.elements.state.open.ok.0,
      c.is_empty.ensures,
      c.elements-test.true,
    ) in
    let found = c.in-Some.ensures.found in
    let p = err_from_is_err_and c.from_residual.result c.from_residual.ensures.1 in
    rw (p.1, p.2) (Closing-unchecked (language_of g.F.ParseFilter.makes g.T.ParseTag.gives g.B.ParseBlock.block c.args.language.now)
    c.args.source.now 1 c.args.text.now c.elements.rest.now c.in-Some.following.now
    (state_view g.F.Filter.Meant.shape g.T.Node.Meant.shape g.B.Node.Meant.shape g.B.Plan.Meant.shape g.B.ParseBlock.block c.args.state)
    found.0 (blocks_view g.F.Filter.Meant.shape g.T.Node.Meant.shape g.B.Node.Meant.shape g.B.Plan.Meant.shape g.B.ParseBlock.block
    c.elements.state.open.items) (shapes_of g.F.Filter.Meant.shape g.T.Node.Meant.shape g.B.Node.Meant.shape c.elements.state.nodes.items)
    _ c.elements.invariant.2 some found.1 (c.in_err-element-in-Some.ensures c.in-Some.following.now found.0 found.1 found.2))

pub elements-preserved : goal.elements-preserved
elements-preserved g c =
    let some : 0 < length (blocks_view g.F.Filter.Meant.shape g.T.Node.Meant.shape g.B.Node.Meant.shape g.B.Plan.Meant.shape
    g.B.ParseBlock.block c.elements.state.open.items) = grind (
      arith,
      (blocks_count (open_view g.F.Filter.Meant.shape g.T.Node.Meant.shape g.B.Node.Meant.shape g.B.Plan.Meant.shape g.B.ParseBlock.block)
          c.elements.state.open.items),
      c.elements.state.open.ok.0,
      c.is_empty.ensures,
      c.elements-test.true,
    ) in
    let found = c.in-Some.ensures.found in
    let over = c.in_ok-element-in-Some.ensures c.in-Some.following.now found.0 found.1 found.2 in (
      search rules,
      further c.args.text.now c.elements.rest.now c.in-Some.following.now c.in_ok-rest-in-Some.rest.now _ c.elements.invariant.1
          found.1.joined c.in_ok-rest-in-Some.ensures.within,
      Closing-on (language_of g.F.ParseFilter.makes g.T.ParseTag.gives g.B.ParseBlock.block c.args.language.now) c.args.source.now 1
          c.args.text.now c.elements.rest.now c.in-Some.following.now (state_view g.F.Filter.Meant.shape g.T.Node.Meant.shape
          g.B.Node.Meant.shape g.B.Plan.Meant.shape g.B.ParseBlock.block c.args.state) found.0
          (blocks_view g.F.Filter.Meant.shape g.T.Node.Meant.shape g.B.Node.Meant.shape g.B.Plan.Meant.shape g.B.ParseBlock.block
          c.elements.state.open.items) (shapes_of g.F.Filter.Meant.shape g.T.Node.Meant.shape g.B.Node.Meant.shape
          c.elements.state.nodes.items) (state_view g.F.Filter.Meant.shape g.T.Node.Meant.shape g.B.Node.Meant.shape g.B.Plan.Meant.shape
          g.B.ParseBlock.block c.advance.new.state) c.in_ok-rest-in-Some.rest.now c.elements.invariant.2 some found.1
          (λ es cover. c.in_ok-rest-in-Some.ensures.value c.args.source.now c.in-Some.following.now found.0 over.1 es cover),
    )

pub elements-smaller : goal.elements-smaller
elements-smaller g c =
    let front = c.in_ok-rest-in-Some.ensures.within in
    omega (arith, c.in-Some.ensures.shorter, ap length front.1, length-append front.0 c.in_ok-rest-in-Some.rest.now)

pub returns-in_err-rest-in-Some-clause-value : goal.returns-in_err-rest-in-Some-clause-value
returns-in_err-rest-in-Some-clause-value g c =
    let some : 0 < length (blocks_view g.F.Filter.Meant.shape g.T.Node.Meant.shape g.B.Node.Meant.shape g.B.Plan.Meant.shape
    g.B.ParseBlock.block c.elements.state.open.items) = grind (
      arith,
      (blocks_count (open_view g.F.Filter.Meant.shape g.T.Node.Meant.shape g.B.Node.Meant.shape g.B.Plan.Meant.shape g.B.ParseBlock.block)
          c.elements.state.open.items),
      c.elements.state.open.ok.0,
      c.is_empty.ensures,
      c.elements-test.true,
    ) in
    let found = c.in-Some.ensures.found in
    let over = c.in_ok-element-in-Some.ensures c.in-Some.following.now found.0 found.1 found.2 in
    let p = err_from_is_err_and c.from_residual-in_err-rest-in-Some.result c.from_residual-in_err-rest-in-Some.ensures.1 in
    rw (p.1, p.2) (Closing-refused (language_of g.F.ParseFilter.makes g.T.ParseTag.gives g.B.ParseBlock.block c.args.language.now)
    c.args.source.now 1 c.args.text.now c.elements.rest.now c.in-Some.following.now
    (state_view g.F.Filter.Meant.shape g.T.Node.Meant.shape g.B.Node.Meant.shape g.B.Plan.Meant.shape g.B.ParseBlock.block c.args.state)
    found.0 (blocks_view g.F.Filter.Meant.shape g.T.Node.Meant.shape g.B.Node.Meant.shape g.B.Plan.Meant.shape g.B.ParseBlock.block
    c.elements.state.open.items) (shapes_of g.F.Filter.Meant.shape g.T.Node.Meant.shape g.B.Node.Meant.shape c.elements.state.nodes.items)
    _ c.elements.invariant.2 some found.1 (λ es cover. c.in_err-rest-in-Some.ensures.value c.args.source.now c.in-Some.following.now
    found.0 over.1 es cover))

pub returns-in-None-clause-value : goal.returns-in-None-clause-value
returns-in-None-clause-value g c =
    Closing-end (language_of g.F.ParseFilter.makes g.T.ParseTag.gives g.B.ParseBlock.block c.args.language.now) c.args.source.now 1
    (λ v. shapes_of g.F.Filter.Meant.shape g.T.Node.Meant.shape g.B.Node.Meant.shape v.items) c.args.text.now c.elements.rest.now
    (state_view g.F.Filter.Meant.shape g.T.Node.Meant.shape g.B.Node.Meant.shape g.B.Plan.Meant.shape g.B.ParseBlock.block c.args.state)
    (blocks_view g.F.Filter.Meant.shape g.T.Node.Meant.shape g.B.Node.Meant.shape g.B.Plan.Meant.shape g.B.ParseBlock.block
    c.elements.state.open.items) (shapes_of g.F.Filter.Meant.shape g.T.Node.Meant.shape g.B.Node.Meant.shape c.elements.state.nodes.items)
    c.in_ok-nodes-in-None.nodes c.elements.rest c.elements.invariant.2 c.in-None.ensures.found refl c.in_ok-nodes-in-None.ensures

pub returns-in_err-nodes-in-None-clause-value : goal.returns-in_err-nodes-in-None-clause-value
returns-in_err-nodes-in-None-clause-value g c =
    let p = err_from_is_err_and c.from_residual-in_err-nodes-in-None.result c.from_residual-in_err-nodes-in-None.ensures.1 in
    rw (p.1, p.2) (Closing-unclosed (language_of g.F.ParseFilter.makes g.T.ParseTag.gives g.B.ParseBlock.block c.args.language.now)
    c.args.source.now 1 c.args.text.now c.elements.rest.now (state_view g.F.Filter.Meant.shape g.T.Node.Meant.shape g.B.Node.Meant.shape
    g.B.Plan.Meant.shape g.B.ParseBlock.block c.args.state) (blocks_view g.F.Filter.Meant.shape g.T.Node.Meant.shape g.B.Node.Meant.shape
    g.B.Plan.Meant.shape g.B.ParseBlock.block c.elements.state.open.items)
    (shapes_of g.F.Filter.Meant.shape g.T.Node.Meant.shape g.B.Node.Meant.shape c.elements.state.nodes.items) _ c.elements.invariant.2
    c.in-None.ensures.found c.in_err-nodes-in-None.ensures)

pub returns-clause-value : goal.returns-clause-value
returns-clause-value g c =
    let none : length (blocks_view g.F.Filter.Meant.shape g.T.Node.Meant.shape g.B.Node.Meant.shape g.B.Plan.Meant.shape
    g.B.ParseBlock.block c.elements.state.open.items) ≡ 0 = grind (
      arith,
      (blocks_count (open_view g.F.Filter.Meant.shape g.T.Node.Meant.shape g.B.Node.Meant.shape g.B.Plan.Meant.shape
          g.B.ParseBlock.block) c.elements.state.open.items),
      c.elements.state.open.ok.0,
      c.is_empty.ensures,
      c.elements-test.false,
    ) in
    Closing-closed (language_of g.F.ParseFilter.makes g.T.ParseTag.gives g.B.ParseBlock.block c.args.language.now) c.args.source.now 1
    c.args.text.now c.elements.rest.now (state_view g.F.Filter.Meant.shape g.T.Node.Meant.shape g.B.Node.Meant.shape g.B.Plan.Meant.shape
    g.B.ParseBlock.block c.args.state) (blocks_view g.F.Filter.Meant.shape g.T.Node.Meant.shape g.B.Node.Meant.shape g.B.Plan.Meant.shape
    g.B.ParseBlock.block c.elements.state.open.items) (shapes_of g.F.Filter.Meant.shape g.T.Node.Meant.shape g.B.Node.Meant.shape
    c.elements.state.nodes.items) c.elements.invariant.2 (empty_list
    (blocks_view g.F.Filter.Meant.shape g.T.Node.Meant.shape g.B.Node.Meant.shape g.B.Plan.Meant.shape g.B.ParseBlock.block
    c.elements.state.open.items) none)
