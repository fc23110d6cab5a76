use Rattle.std.proofs.Common.{[], Ok, refl, sym, ap, ◌∙◌, subst, rules, arith, length}
use Rattle.std.proofs.lemmas.List.{length-append}
use Rattle.std.proofs.lemmas.Result.{err_from_is_err_and}
use Rattle.liquid_grammar.specs.meaning.Cover.{expression, invalid}
use Rattle.liquid_plugins.specs.meaning.NodesOf.{node_of, shapes_of}
use Rattle.liquid_parser.specs.meaning.Plugins.{language_of}
use Rattle.liquid_parser.specs.meaning.Reading.{among}
use Rattle.liquid_parser.specs.steps.Views.{blocks_view, state_view}
use Rattle.liquid_parser.proofs.ElementLemmas.{lone_brace_at}
use Rattle.liquid_parser.proofs.FastPathLemmas.{node_advanced, invalid_advanced}
use Rattle.liquid_parser.proofs.StepLemmas.{last_node}
use Rattle.liquid_parser.proofs.ReadingSteps.{Goes, Goes-begin, Goes-on, refused, unchecked, ends}
use Rattle.liquid_parser.proofs.reading.parse.read_nodes.Goals as goal

pub elements-init : goal.elements-init
elements-init g c = (
  search rules,
  Goes-begin (language_of g.F.ParseFilter.makes g.T.ParseTag.gives g.B.ParseBlock.block c.args.language.now)
      c.args.text.now _ (ap (λ os. among (blocks_view g.F.Filter.Meant.shape g.T.Node.Meant.shape g.B.Node.Meant.shape g.B.Plan.Meant.shape
      g.B.ParseBlock.block os) (shapes_of g.F.Filter.Meant.shape g.T.Node.Meant.shape g.B.Node.Meant.shape c.new-2.result.items))
      c.new.ensures.items ∙ ap (λ ns. among (blocks_view g.F.Filter.Meant.shape g.T.Node.Meant.shape g.B.Node.Meant.shape
      g.B.Plan.Meant.shape
      g.B.ParseBlock.block []) (shapes_of g.F.Filter.Meant.shape g.T.Node.Meant.shape g.B.Node.Meant.shape ns)) c.new-2.ensures.items),
)

pub elements-preserved-in-Whole : goal.elements-preserved-in-Whole
elements-preserved-in-Whole g c =
    let blocks =
    blocks_view g.F.Filter.Meant.shape g.T.Node.Meant.shape g.B.Node.Meant.shape g.B.Plan.Meant.shape g.B.ParseBlock.block
    c.elements.state.open.items in
    let nodes = shapes_of g.F.Filter.Meant.shape g.T.Node.Meant.shape g.B.Node.Meant.shape c.elements.state.nodes.items in
    let made = rw c.in-Whole.is at c.in_ok-node.ensures.value c.args.text.now in (
      search rules,
      Goes-on (language_of g.F.ParseFilter.makes g.T.ParseTag.gives g.B.ParseBlock.block c.args.language.now) c.args.text.now _ _
          (expression made.chain made.text) blocks nodes (state_view g.F.Filter.Meant.shape g.T.Node.Meant.shape g.B.Node.Meant.shape
          g.B.Plan.Meant.shape g.B.ParseBlock.block (record c.elements.state { nodes = c.push.new.self })) c.in-Whole.following.now
          c.elements.invariant.1 made.stands
          (λ es cover. (
            es,
            cover,
            node_advanced (language_of g.F.ParseFilter.makes g.T.ParseTag.gives g.B.ParseBlock.block c.args.language.now) c.args.text.now 0
                blocks nodes _ _ _ made es
                ∙ ap (λ ns. Ok (among blocks ns, es)) (sym (last_node (node_of g.F.Filter.Meant.shape g.T.Node.Meant.shape
                g.B.Node.Meant.shape) c.elements.state.nodes.items _ _ c.in_ok-push-in-Whole.ensures.items refl)),
          )),
    )

pub elements-preserved : goal.elements-preserved
elements-preserved g c =
    let goes = c.elements.invariant.1 in
    let found = c.in-Some.ensures.found in
    let over = c.in_ok-element-in-Some.ensures c.in-Some.following.now found.0 found.1 found.2 in (
      search rules,
      Goes-on (language_of g.F.ParseFilter.makes g.T.ParseTag.gives g.B.ParseBlock.block c.args.language.now) c.args.text.now _ _ found.0
          (blocks_view g.F.Filter.Meant.shape g.T.Node.Meant.shape g.B.Node.Meant.shape g.B.Plan.Meant.shape g.B.ParseBlock.block
          c.elements.state.open.items) (shapes_of g.F.Filter.Meant.shape g.T.Node.Meant.shape g.B.Node.Meant.shape
          c.elements.state.nodes.items) (state_view g.F.Filter.Meant.shape g.T.Node.Meant.shape g.B.Node.Meant.shape g.B.Plan.Meant.shape
          g.B.ParseBlock.block c.advance.new.state) c.in_ok-rest-in-Some.rest.now goes found.1
          (λ es cover. c.in_ok-rest-in-Some.ensures.value c.args.text.now c.in-Some.following.now found.0 over.1 es cover),
    )

pub elements-smaller : goal.elements-smaller
elements-smaller g c =
    let front = c.in_ok-rest-in-Some.ensures.within in
    omega (arith, c.in-Some.ensures.shorter, ap length front.1, length-append front.0 c.in_ok-rest-in-Some.rest.now)

pub returns-in_err-element-in-Some : goal.returns-in_err-element-in-Some
returns-in_err-element-in-Some g c =
    let goes = c.elements.invariant.1 in
    let found = c.in-Some.ensures.found in
    let p = err_from_is_err_and c.from_residual-in_err-element-in-Some.result c.from_residual-in_err-element-in-Some.ensures.1 in
    rw (p.1, p.2) (unchecked (language_of g.F.ParseFilter.makes g.T.ParseTag.gives g.B.ParseBlock.block c.args.language.now) c.args.text.now
    _ _ found.0 (blocks_view g.F.Filter.Meant.shape g.T.Node.Meant.shape g.B.Node.Meant.shape g.B.Plan.Meant.shape g.B.ParseBlock.block
    c.elements.state.open.items) (shapes_of g.F.Filter.Meant.shape g.T.Node.Meant.shape g.B.Node.Meant.shape c.elements.state.nodes.items)
    _ goes found.1 (c.in_err-element-in-Some.ensures c.in-Some.following.now found.0 found.1 found.2))

pub returns-in_err-rest-in-Some : goal.returns-in_err-rest-in-Some
returns-in_err-rest-in-Some g c =
    let goes = c.elements.invariant.1 in
    let found = c.in-Some.ensures.found in
    let over = c.in_ok-element-in-Some.ensures c.in-Some.following.now found.0 found.1 found.2 in
    let p = err_from_is_err_and c.from_residual-in_err-rest-in-Some.result c.from_residual-in_err-rest-in-Some.ensures.1 in
    rw (p.1, p.2) (refused (language_of g.F.ParseFilter.makes g.T.ParseTag.gives g.B.ParseBlock.block c.args.language.now) c.args.text.now _
    _ found.0 (blocks_view g.F.Filter.Meant.shape g.T.Node.Meant.shape g.B.Node.Meant.shape g.B.Plan.Meant.shape g.B.ParseBlock.block
    c.elements.state.open.items) (shapes_of g.F.Filter.Meant.shape g.T.Node.Meant.shape g.B.Node.Meant.shape c.elements.state.nodes.items)
    _ goes found.1 (λ es cover. c.in_err-rest-in-Some.ensures.value c.args.text.now c.in-Some.following.now found.0 over.1 es cover))

pub returns-in-None : goal.returns-in-None
returns-in-None g c =
    ends _ _ _ _ c.end_reading.result (subst (λ rest. Goes (language_of g.F.ParseFilter.makes g.T.ParseTag.gives g.B.ParseBlock.block
    c.args.language.now) c.args.text.now rest (state_view g.F.Filter.Meant.shape g.T.Node.Meant.shape g.B.Node.Meant.shape
    g.B.Plan.Meant.shape g.B.ParseBlock.block c.elements.state)) c.in-None.ensures.found c.elements.invariant.1) c.end_reading.ensures

pub returns-in-NoExpression : goal.returns-in-NoExpression
returns-in-NoExpression g c =
    let blocks =
    blocks_view g.F.Filter.Meant.shape g.T.Node.Meant.shape g.B.Node.Meant.shape g.B.Plan.Meant.shape g.B.ParseBlock.block
    c.elements.state.open.items in
    let nodes = shapes_of g.F.Filter.Meant.shape g.T.Node.Meant.shape g.B.Node.Meant.shape c.elements.state.nodes.items in
    let found = rw c.in-NoExpression.is at c.in_ok-node.ensures.value c.args.text.now in
    refused (language_of g.F.ParseFilter.makes g.T.ParseTag.gives g.B.ParseBlock.block c.args.language.now) c.args.text.now _ found.0
    (invalid found.1) blocks nodes _ c.elements.invariant.1 found.2
    (λ es cover. invalid_advanced (language_of g.F.ParseFilter.makes g.T.ParseTag.gives g.B.ParseBlock.block c.args.language.now)
    c.args.text.now 0 blocks nodes found.0 found.1 es _ (c.no_expression.ensures found.0
    (lone_brace_at c.elements.rest.now found.0 found.1 c.match_white.result.1.now _ found.2 c.match_white.ensures.value)))
