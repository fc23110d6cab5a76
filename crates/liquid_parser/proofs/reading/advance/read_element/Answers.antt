use Rattle.std.proofs.Common.{Ok, sym, ap, ◌∙◌}
use Rattle.liquid_plugins.specs.meaning.NodesOf.{node_of, shapes_of}
use Rattle.liquid_plugins.specs.meaning.Nodes.{text_node}
use Rattle.liquid_parser.specs.meaning.Plugins.{language_of}
use Rattle.liquid_parser.specs.meaning.Reading.{among}
use Rattle.liquid_parser.specs.steps.Views.{blocks_view}
use Rattle.liquid_parser.proofs.DispatchLemmas.{err_now, with_outer}
use Rattle.liquid_parser.proofs.ElementLemmas.{raw_step, tag_step, expression_step, invalid_step}
use Rattle.liquid_parser.proofs.StepLemmas.{is_text, last_node}
use Rattle.liquid_parser.proofs.reading.advance.read_element.Goals as goal

pub returns-in_ok-push-in-Raw : goal.returns-in_ok-push-in-Raw
returns-in_ok-push-in-Raw g c source following e m =
    let shape = is_text g.F.Filter.Meant.shape g.T.Node.Meant.shape g.B.Node.Meant.shape _ _ c.in_ok-into_renderable-in-Raw.ensures in
    raw_step (language_of g.F.ParseFilter.makes g.T.ParseTag.gives g.B.ParseBlock.block c.args.language.now) source c.args.outside
    (blocks_view g.F.Filter.Meant.shape g.T.Node.Meant.shape g.B.Node.Meant.shape g.B.Plan.Meant.shape g.B.ParseBlock.block
    c.args.state.now.open.items) (shapes_of g.F.Filter.Meant.shape g.T.Node.Meant.shape g.B.Node.Meant.shape c.args.state.now.nodes.items)
    c.in-Raw.raw following e (rw c.in-Raw.is at m)
    ∙ ap (λ ns. Ok (among (blocks_view g.F.Filter.Meant.shape g.T.Node.Meant.shape g.B.Node.Meant.shape g.B.Plan.Meant.shape
    g.B.ParseBlock.block c.args.state.now.open.items) ns)) (sym (last_node
    (node_of g.F.Filter.Meant.shape g.T.Node.Meant.shape g.B.Node.Meant.shape) c.args.state.now.nodes.items _
    (text_node c.in-Raw.raw.text.now) c.in_ok-push-in-Raw.ensures.items shape))

pub returns-in-Expression : goal.returns-in-Expression
returns-in-Expression g c source following e m =
    let s =
    expression_step (language_of g.F.ParseFilter.makes g.T.ParseTag.gives g.B.ParseBlock.block c.args.language.now) source
    c.args.outside (blocks_view g.F.Filter.Meant.shape g.T.Node.Meant.shape g.B.Node.Meant.shape g.B.Plan.Meant.shape
    g.B.ParseBlock.block c.args.state.now.open.items) (shapes_of g.F.Filter.Meant.shape g.T.Node.Meant.shape g.B.Node.Meant.shape
    c.args.state.now.nodes.items) c.in-Expression.exp following e (rw c.in-Expression.is at m) in
    with_outer _ _ _ c.read_expression.result s.2 (c.read_expression.ensures source s.0 s.1)

pub returns-in-Tag : goal.returns-in-Tag
returns-in-Tag g c source following e m =
    let s =
    tag_step (language_of g.F.ParseFilter.makes g.T.ParseTag.gives g.B.ParseBlock.block c.args.language.now) source c.args.outside
    (blocks_view g.F.Filter.Meant.shape g.T.Node.Meant.shape g.B.Node.Meant.shape g.B.Plan.Meant.shape g.B.ParseBlock.block
    c.args.state.now.open.items) (shapes_of g.F.Filter.Meant.shape g.T.Node.Meant.shape g.B.Node.Meant.shape
    c.args.state.now.nodes.items) c.in-Tag.tag following e (rw c.in-Tag.is at m) in
    with_outer _ _ _ c.dispatch.result s.2 (c.dispatch.ensures source s.0 s.1)

pub returns-in-Invalid : goal.returns-in-Invalid
returns-in-Invalid g c source following e m =
    let s =
    invalid_step (language_of g.F.ParseFilter.makes g.T.ParseTag.gives g.B.ParseBlock.block c.args.language.now) source c.args.outside
    (blocks_view g.F.Filter.Meant.shape g.T.Node.Meant.shape g.B.Node.Meant.shape g.B.Plan.Meant.shape g.B.ParseBlock.block
    c.args.state.now.open.items) (shapes_of g.F.Filter.Meant.shape g.T.Node.Meant.shape g.B.Node.Meant.shape
    c.args.state.now.nodes.items) c.in-Invalid.token following e (rw c.in-Invalid.is at m) in
    err_now _ _ _ s.1 (c.refusal.ensures source following s.0)
