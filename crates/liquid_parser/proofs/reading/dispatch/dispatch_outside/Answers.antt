use Rattle.std.proofs.Common.{◌≡◌, None, Some, ap, ◌∙◌, ◌∷◌, [], ◌++◌, Ok, sym, subst, option_map}
use Rattle.std.specs.FinMap.{get}
use Rattle.std.proofs.lemmas.List.{map_push}
use Rattle.std.proofs.lemmas.Result.{err_from_is_err_and}
use Rattle.liquid_plugins.specs.meaning.NodesOf.{node_of, shapes_of}
use Rattle.liquid_parser.specs.meaning.Plugins.{language_of, registry_of}
use Rattle.liquid_parser.specs.meaning.Reading.{among, tag_given}
use Rattle.liquid_parser.specs.steps.Views.{blocks_view}
use Rattle.liquid_parser.proofs.DispatchLemmas.{then_ok, then_err, err_now, tag_outer, block_outer, unknown_outer, with_outer}
use Rattle.liquid_parser.proofs.reading.dispatch.dispatch_outside.Goals as goal

pub returns-in_ok-push-in-Some : goal.returns-in_ok-push-in-Some
returns-in_ok-push-in-Some g c source t h =
    let has : option_map g.T.ParseTag.gives (get c.args.language.now.tags t.0) ≡ Some (g.T.ParseTag.gives c.in-Some.plug_in.now) =
    subst (λ n. option_map g.T.ParseTag.gives (get c.args.language.now.tags n) ≡ Some (g.T.ParseTag.gives c.in-Some.plug_in.now)) h.name_is
    (sym (ap (option_map g.T.ParseTag.gives) c.in-Some.ensures)) in
    then_ok _ (tag_given source t (registry_of g.F.ParseFilter.makes c.args.language.now.filters)
    (g.T.ParseTag.gives c.in-Some.plug_in.now)) (λ n. Ok (among (blocks_view g.F.Filter.Meant.shape g.T.Node.Meant.shape
    g.B.Node.Meant.shape g.B.Plan.Meant.shape g.B.ParseBlock.block c.args.state.now.open.items)
    (shapes_of g.F.Filter.Meant.shape g.T.Node.Meant.shape g.B.Node.Meant.shape c.args.state.now.nodes.items ++ n ∷ []))) _
    (tag_outer (language_of g.F.ParseFilter.makes g.T.ParseTag.gives g.B.ParseBlock.block c.args.language.now) source c.args.outside t
    (blocks_view g.F.Filter.Meant.shape g.T.Node.Meant.shape g.B.Node.Meant.shape g.B.Plan.Meant.shape g.B.ParseBlock.block
    c.args.state.now.open.items) (shapes_of g.F.Filter.Meant.shape g.T.Node.Meant.shape g.B.Node.Meant.shape c.args.state.now.nodes.items)
    (g.T.ParseTag.gives c.in-Some.plug_in.now) has) (c.in_ok-node-in-Some.ensures source t h)
    ∙ ap (λ ns. Ok (among (blocks_view g.F.Filter.Meant.shape g.T.Node.Meant.shape g.B.Node.Meant.shape g.B.Plan.Meant.shape
    g.B.ParseBlock.block c.args.state.now.open.items) ns)) (sym (ap
    (shapes_of g.F.Filter.Meant.shape g.T.Node.Meant.shape g.B.Node.Meant.shape) c.in_ok-push-in-Some.ensures.items
    ∙ map_push (node_of g.F.Filter.Meant.shape g.T.Node.Meant.shape g.B.Node.Meant.shape) c.args.state.now.nodes.items
    c.in_ok-node-in-Some.node))

pub returns-in_err-node-in-Some : goal.returns-in_err-node-in-Some
returns-in_err-node-in-Some g c source t h =
    let p = err_from_is_err_and c.from_residual.result c.from_residual.ensures.1 in
    rw (p.1, p.2) (let has : option_map g.T.ParseTag.gives (get c.args.language.now.tags t.0) ≡ Some
    (g.T.ParseTag.gives c.in-Some.plug_in.now) =
    subst (λ n. option_map g.T.ParseTag.gives (get c.args.language.now.tags n) ≡ Some (g.T.ParseTag.gives c.in-Some.plug_in.now)) h.name_is
    (sym (ap (option_map g.T.ParseTag.gives) c.in-Some.ensures)) in
    then_err _ _ (tag_given source t (registry_of g.F.ParseFilter.makes c.args.language.now.filters)
    (g.T.ParseTag.gives c.in-Some.plug_in.now)) (λ n. Ok (among (blocks_view g.F.Filter.Meant.shape g.T.Node.Meant.shape
    g.B.Node.Meant.shape g.B.Plan.Meant.shape g.B.ParseBlock.block c.args.state.now.open.items)
    (shapes_of g.F.Filter.Meant.shape g.T.Node.Meant.shape g.B.Node.Meant.shape c.args.state.now.nodes.items ++ n ∷ [])))
    (tag_outer (language_of g.F.ParseFilter.makes g.T.ParseTag.gives g.B.ParseBlock.block c.args.language.now) source c.args.outside t
    (blocks_view g.F.Filter.Meant.shape g.T.Node.Meant.shape g.B.Node.Meant.shape g.B.Plan.Meant.shape g.B.ParseBlock.block
    c.args.state.now.open.items) (shapes_of g.F.Filter.Meant.shape g.T.Node.Meant.shape g.B.Node.Meant.shape c.args.state.now.nodes.items)
    (g.T.ParseTag.gives c.in-Some.plug_in.now) has) (c.in_err-node-in-Some.ensures source t h))

pub returns-in-Some-get : goal.returns-in-Some-get
returns-in-Some-get g c source t h =
    let none : option_map g.T.ParseTag.gives (get c.args.language.now.tags t.0) ≡ None =
    subst (λ n. option_map g.T.ParseTag.gives (get c.args.language.now.tags n) ≡ None) h.name_is
    (sym (ap (option_map g.T.ParseTag.gives) c.in-None.ensures)) in
    let has : option_map g.B.ParseBlock.block (get c.args.language.now.blocks t.0) ≡ Some (g.B.ParseBlock.block c.in-Some-get.kind.now) =
    subst (λ n. option_map g.B.ParseBlock.block (get c.args.language.now.blocks n) ≡ Some (g.B.ParseBlock.block c.in-Some-get.kind.now))
    h.name_is (sym (ap (option_map g.B.ParseBlock.block) c.in-Some-get.ensures)) in
    with_outer _ _ _ c.open_block.result (block_outer (language_of g.F.ParseFilter.makes g.T.ParseTag.gives g.B.ParseBlock.block
    c.args.language.now) source c.args.outside t (blocks_view g.F.Filter.Meant.shape g.T.Node.Meant.shape g.B.Node.Meant.shape
    g.B.Plan.Meant.shape g.B.ParseBlock.block c.args.state.now.open.items)
    (shapes_of g.F.Filter.Meant.shape g.T.Node.Meant.shape g.B.Node.Meant.shape c.args.state.now.nodes.items)
    (g.B.ParseBlock.block c.in-Some-get.kind.now) none has) (c.open_block.ensures source t h)

pub returns-in-None-get : goal.returns-in-None-get
returns-in-None-get g c source t h =
    let none : option_map g.T.ParseTag.gives (get c.args.language.now.tags t.0) ≡ None =
    subst (λ n. option_map g.T.ParseTag.gives (get c.args.language.now.tags n) ≡ None) h.name_is
    (sym (ap (option_map g.T.ParseTag.gives) c.in-None.ensures)) in
    let nor : option_map g.B.ParseBlock.block (get c.args.language.now.blocks t.0) ≡ None =
    subst (λ n. option_map g.B.ParseBlock.block (get c.args.language.now.blocks n) ≡ None) h.name_is
    (sym (ap (option_map g.B.ParseBlock.block) c.in-None-get.ensures)) in
    err_now _ _ _ (unknown_outer (language_of g.F.ParseFilter.makes g.T.ParseTag.gives g.B.ParseBlock.block c.args.language.now) source
    c.args.outside t (blocks_view g.F.Filter.Meant.shape g.T.Node.Meant.shape g.B.Node.Meant.shape g.B.Plan.Meant.shape
    g.B.ParseBlock.block c.args.state.now.open.items) (shapes_of g.F.Filter.Meant.shape g.T.Node.Meant.shape g.B.Node.Meant.shape
    c.args.state.now.nodes.items) none nor) (c.unknown_tag_error.ensures source t h)
