use Rattle.std.proofs.Common.{◌≡◌, true, false, arith, length, refl, ap, ◌∙◌, sym, subst}
use Rattle.std.specs.Prelude.{bytes_eq, map, reverse}
use Rattle.std.specs.List.{list_any}
use Rattle.liquid_plugins.specs.meaning.NodesOf.{shapes_of}
use Rattle.liquid_parser.specs.meaning.Lang.{BlockNames}
use Rattle.liquid_parser.specs.meaning.Plugins.{language_of}
use Rattle.liquid_parser.specs.meaning.Reading.{outer_read, tag_read}
use Rattle.liquid_parser.specs.steps.Views.{open_view, blocks_view}
use Rattle.liquid_parser.proofs.DispatchLemmas.{end_read, divider_read, other_read, with_outer, push_block}
use Rattle.liquid_parser.proofs.InnermostLemmas.{last_found, last_missing}
use Rattle.liquid_parser.proofs.reading.dispatch.dispatch.Goals as goal

pub returns-in-None : goal.returns-in-None
returns-in-None g c source t h =
    let empty =
    sym c.deref.ensures.value ∙ last_missing c.deref.result.now (length c.deref.result.now) refl (sym c.in-None.ensures.value) in
    with_outer _ _ _ c.dispatch_outside.result
    (ap (λ bs. tag_read (language_of g.F.ParseFilter.makes g.T.ParseTag.gives g.B.ParseBlock.block c.args.language.now) source
    c.args.outside (blocks_view g.F.Filter.Meant.shape g.T.Node.Meant.shape g.B.Node.Meant.shape g.B.Plan.Meant.shape g.B.ParseBlock.block
    bs) (shapes_of g.F.Filter.Meant.shape g.T.Node.Meant.shape g.B.Node.Meant.shape c.args.state.now.nodes.items) t) empty
    ∙ ap (λ bs. outer_read (language_of g.F.ParseFilter.makes g.T.ParseTag.gives g.B.ParseBlock.block c.args.language.now) source
    c.args.outside t (blocks_view g.F.Filter.Meant.shape g.T.Node.Meant.shape g.B.Node.Meant.shape g.B.Plan.Meant.shape
    g.B.ParseBlock.block bs) (shapes_of g.F.Filter.Meant.shape g.T.Node.Meant.shape g.B.Node.Meant.shape c.args.state.now.nodes.items))
    (sym empty))
    (c.dispatch_outside.ensures source t h)

pub returns-then-eq : goal.returns-then-eq
returns-then-eq g c source t h =
    let found = last_found c.deref.result.now (length c.deref.result.now) c.in-Some.block.now refl (sym c.in-Some.ensures.value) in
    let b =
    open_view g.F.Filter.Meant.shape g.T.Node.Meant.shape g.B.Node.Meant.shape g.B.Plan.Meant.shape g.B.ParseBlock.block
    c.in-Some.block.now in
    let blocks =
    reverse (map (open_view g.F.Filter.Meant.shape g.T.Node.Meant.shape g.B.Node.Meant.shape g.B.Plan.Meant.shape g.B.ParseBlock.block)
    found.0) in
    let whole =
    push_block (open_view g.F.Filter.Meant.shape g.T.Node.Meant.shape g.B.Node.Meant.shape g.B.Plan.Meant.shape g.B.ParseBlock.block)
    found.0 c.in-Some.block.now (sym c.deref.ensures.value ∙ found.1) in
    let here =
    ap (λ bs. tag_read (language_of g.F.ParseFilter.makes g.T.ParseTag.gives g.B.ParseBlock.block c.args.language.now) source
    c.args.outside bs (shapes_of g.F.Filter.Meant.shape g.T.Node.Meant.shape g.B.Node.Meant.shape c.args.state.now.nodes.items) t)
    whole in
    let ends : bytes_eq t.0 (g.B.ParseBlock.block c.in-Some.block.now.kind.now).names.end_name ≡ true =
    grind (
      arith,
      h.name_is,
      c.end_tag.ensures,
      ap (λ (n : BlockNames). n.end_name)
          (g.met.B.ParseBlock.named c.in-Some.block.now.kind.now),
      c.eq.ensures,
      c.if-eq.true,
    ) in
    with_outer _ _ _ c.end_block.result (here ∙ end_read (language_of g.F.ParseFilter.makes g.T.ParseTag.gives g.B.ParseBlock.block
    c.args.language.now) source c.args.outside t b blocks (shapes_of g.F.Filter.Meant.shape g.T.Node.Meant.shape g.B.Node.Meant.shape
    c.args.state.now.nodes.items) ends) (c.end_block.ensures source t h b blocks whole)

pub returns-then-is_among : goal.returns-then-is_among
returns-then-is_among g c source t h =
    let found = last_found c.deref.result.now (length c.deref.result.now) c.in-Some.block.now refl (sym c.in-Some.ensures.value) in
    let b =
    open_view g.F.Filter.Meant.shape g.T.Node.Meant.shape g.B.Node.Meant.shape g.B.Plan.Meant.shape g.B.ParseBlock.block
    c.in-Some.block.now in
    let blocks =
    reverse (map (open_view g.F.Filter.Meant.shape g.T.Node.Meant.shape g.B.Node.Meant.shape g.B.Plan.Meant.shape g.B.ParseBlock.block)
    found.0) in
    let whole =
    push_block (open_view g.F.Filter.Meant.shape g.T.Node.Meant.shape g.B.Node.Meant.shape g.B.Plan.Meant.shape g.B.ParseBlock.block)
    found.0 c.in-Some.block.now (sym c.deref.ensures.value ∙ found.1) in
    let here =
    ap (λ bs. tag_read (language_of g.F.ParseFilter.makes g.T.ParseTag.gives g.B.ParseBlock.block c.args.language.now) source
    c.args.outside bs (shapes_of g.F.Filter.Meant.shape g.T.Node.Meant.shape g.B.Node.Meant.shape c.args.state.now.nodes.items) t)
    whole in
    let ends : bytes_eq t.0 (g.B.ParseBlock.block c.in-Some.block.now.kind.now).names.end_name ≡ false =
    grind (
      arith,
      h.name_is,
      c.end_tag.ensures,
      ap (λ (n : BlockNames). n.end_name)
          (g.met.B.ParseBlock.named c.in-Some.block.now.kind.now),
      c.eq.ensures,
      c.if-eq.false,
    ) in
    let among_them : list_any (bytes_eq t.0) (g.B.ParseBlock.block c.in-Some.block.now.kind.now).means.dividers ≡ true =
    subst (λ n. list_any (bytes_eq n) (g.B.ParseBlock.block c.in-Some.block.now.kind.now).means.dividers ≡ true) h.name_is
    (ap (list_any (bytes_eq c.args.tag.name.now)) (sym c.dividers.ensures) ∙ (sym c.is_among.ensures ∙ c.if-is_among.true)) in
    with_outer _ _ _ c.end_part.result (here ∙ divider_read (language_of g.F.ParseFilter.makes g.T.ParseTag.gives g.B.ParseBlock.block
    c.args.language.now) source c.args.outside t b blocks (shapes_of g.F.Filter.Meant.shape g.T.Node.Meant.shape g.B.Node.Meant.shape
    c.args.state.now.nodes.items) ends among_them) (c.end_part.ensures source t h b blocks whole)

pub returns-else-is_among : goal.returns-else-is_among
returns-else-is_among g c source t h =
    let found = last_found c.deref.result.now (length c.deref.result.now) c.in-Some.block.now refl (sym c.in-Some.ensures.value) in
    let b =
    open_view g.F.Filter.Meant.shape g.T.Node.Meant.shape g.B.Node.Meant.shape g.B.Plan.Meant.shape g.B.ParseBlock.block
    c.in-Some.block.now in
    let blocks =
    reverse (map (open_view g.F.Filter.Meant.shape g.T.Node.Meant.shape g.B.Node.Meant.shape g.B.Plan.Meant.shape g.B.ParseBlock.block)
    found.0) in
    let whole =
    push_block (open_view g.F.Filter.Meant.shape g.T.Node.Meant.shape g.B.Node.Meant.shape g.B.Plan.Meant.shape g.B.ParseBlock.block)
    found.0 c.in-Some.block.now (sym c.deref.ensures.value ∙ found.1) in
    let here =
    ap (λ bs. tag_read (language_of g.F.ParseFilter.makes g.T.ParseTag.gives g.B.ParseBlock.block c.args.language.now) source
    c.args.outside bs (shapes_of g.F.Filter.Meant.shape g.T.Node.Meant.shape g.B.Node.Meant.shape c.args.state.now.nodes.items) t)
    whole in
    let ends : bytes_eq t.0 (g.B.ParseBlock.block c.in-Some.block.now.kind.now).names.end_name ≡ false =
    grind (
      arith,
      h.name_is,
      c.end_tag.ensures,
      ap (λ (n : BlockNames). n.end_name)
          (g.met.B.ParseBlock.named c.in-Some.block.now.kind.now),
      c.eq.ensures,
      c.if-eq.false,
    ) in
    let among_them : list_any (bytes_eq t.0) (g.B.ParseBlock.block c.in-Some.block.now.kind.now).means.dividers ≡ false =
    subst (λ n. list_any (bytes_eq n) (g.B.ParseBlock.block c.in-Some.block.now.kind.now).means.dividers ≡ false) h.name_is
    (ap (list_any (bytes_eq c.args.tag.name.now)) (sym c.dividers.ensures) ∙ (sym c.is_among.ensures ∙ c.if-is_among.false)) in
    with_outer _ _ _ c.dispatch_outside-else-is_among.result
    (here ∙ (other_read (language_of g.F.ParseFilter.makes g.T.ParseTag.gives g.B.ParseBlock.block c.args.language.now) source
    c.args.outside t b blocks (shapes_of g.F.Filter.Meant.shape g.T.Node.Meant.shape g.B.Node.Meant.shape c.args.state.now.nodes.items)
    ends among_them
    ∙ ap (λ bs. outer_read (language_of g.F.ParseFilter.makes g.T.ParseTag.gives g.B.ParseBlock.block c.args.language.now) source
    c.args.outside t bs (shapes_of g.F.Filter.Meant.shape g.T.Node.Meant.shape g.B.Node.Meant.shape c.args.state.now.nodes.items))
    (sym whole)))
    (c.dispatch_outside-else-is_among.ensures source t h)
