use Rattle.std.proofs.Common.{◌≡◌, [], Ok, ap, sym, ◌∙◌, refl, subst, length, arith}
use Rattle.std.proofs.lemmas.List.{append-nil}
use Rattle.std.proofs.lemmas.Result.{err_from_is_err_and}
use Rattle.liquid_error.specs.meaning.Refusal.{ok_then}
use Rattle.liquid_plugins.specs.meaning.NodesOf.{node_of, shapes_of}
use Rattle.liquid_parser.specs.meaning.ElementReading.{read_closed}
use Rattle.liquid_parser.specs.meaning.Plugins.{language_of}
use Rattle.liquid_parser.specs.meaning.Reading.{tag_read}
use Rattle.liquid_parser.specs.steps.Views.{blocks_view, next_view}
use Rattle.liquid_parser.proofs.DispatchLemmas.{nothing_left}
use Rattle.liquid_parser.proofs.BlockLemmas.{same_fault}
use Rattle.liquid_parser.proofs.OneNode.{AllOne, tag_one, one_popped, not_empty}
use Rattle.liquid_parser.proofs.StepLemmas.{last_node, then_refused}
use Rattle.liquid_parser.proofs.cursor.tag.Tag.parse.Goals as goal

pub returns-in-Some-clause-value : goal.returns-in-Some-clause-value
returns-in-Some-clause-value g c own t is es cover =
    let first : tag_read (language_of g.F.ParseFilter.makes g.T.ParseTag.gives g.B.ParseBlock.block c.args.language.now) own 1 [] [] t ≡ Ok
    (next_view g.F.Filter.Meant.shape g.T.Node.Meant.shape g.B.Node.Meant.shape g.B.Plan.Meant.shape g.B.ParseBlock.block
    c.in_ok-next.next c.dispatch.new.state) =
    sym (ap (λ os. tag_read (language_of g.F.ParseFilter.makes g.T.ParseTag.gives g.B.ParseBlock.block c.args.language.now) own 1
    (blocks_view g.F.Filter.Meant.shape g.T.Node.Meant.shape g.B.Node.Meant.shape g.B.Plan.Meant.shape g.B.ParseBlock.block os)
    (shapes_of g.F.Filter.Meant.shape g.T.Node.Meant.shape g.B.Node.Meant.shape c.new-2.result.items) t) c.new.ensures.items
    ∙ ap (λ ns. tag_read (language_of g.F.ParseFilter.makes g.T.ParseTag.gives g.B.ParseBlock.block c.args.language.now) own 1 []
    (shapes_of g.F.Filter.Meant.shape g.T.Node.Meant.shape g.B.Node.Meant.shape ns) t) c.new-2.ensures.items)
    ∙ c.in_ok-next.ensures own t is in
    let e = c.in_ok-nodes.ensures.value es cover in
    let whole =
    ap (λ r. ok_then r (λ n. read_closed (language_of g.F.ParseFilter.makes g.T.ParseTag.gives g.B.ParseBlock.block c.args.language.now)
    c.args.block.now.source.now 1 n es)) first ∙ e.2 in
    let one =
    subst (AllOne (language_of g.F.ParseFilter.makes g.T.ParseTag.gives g.B.ParseBlock.block c.args.language.now)
    c.args.block.now.source.now 1) whole (tag_one (language_of g.F.ParseFilter.makes g.T.ParseTag.gives g.B.ParseBlock.block
    c.args.language.now) c.args.block.now.source.now 1 own t es) in
    let popped =
    one_popped _ _ _ (last_node (node_of g.F.Filter.Meant.shape g.T.Node.Meant.shape g.B.Node.Meant.shape) c.pop.new.self.items
    c.in-Some.node _ c.in-Some.ensures.items refl) one in
    (e.0, e.1, whole ∙ ap (λ ns. Ok (ns, e.0)) popped)

pub returns-clause-value : goal.returns-clause-value
returns-clause-value g c own t is es cover =
    let first : tag_read (language_of g.F.ParseFilter.makes g.T.ParseTag.gives g.B.ParseBlock.block c.args.language.now) own 1 [] [] t ≡ Ok
    (next_view g.F.Filter.Meant.shape g.T.Node.Meant.shape g.B.Node.Meant.shape g.B.Plan.Meant.shape g.B.ParseBlock.block
    c.in_ok-next.next c.dispatch.new.state) =
    sym (ap (λ os. tag_read (language_of g.F.ParseFilter.makes g.T.ParseTag.gives g.B.ParseBlock.block c.args.language.now) own 1
    (blocks_view g.F.Filter.Meant.shape g.T.Node.Meant.shape g.B.Node.Meant.shape g.B.Plan.Meant.shape g.B.ParseBlock.block os)
    (shapes_of g.F.Filter.Meant.shape g.T.Node.Meant.shape g.B.Node.Meant.shape c.new-2.result.items) t) c.new.ensures.items
    ∙ ap (λ ns. tag_read (language_of g.F.ParseFilter.makes g.T.ParseTag.gives g.B.ParseBlock.block c.args.language.now) own 1 []
    (shapes_of g.F.Filter.Meant.shape g.T.Node.Meant.shape g.B.Node.Meant.shape ns) t) c.new-2.ensures.items)
    ∙ c.in_ok-next.ensures own t is in
    let e = c.in_ok-nodes.ensures.value es cover in
    let whole =
    ap (λ r. ok_then r (λ n. read_closed (language_of g.F.ParseFilter.makes g.T.ParseTag.gives g.B.ParseBlock.block c.args.language.now)
    c.args.block.now.source.now 1 n es)) first ∙ e.2 in
    let one =
    subst (AllOne (language_of g.F.ParseFilter.makes g.T.ParseTag.gives g.B.ParseBlock.block c.args.language.now)
    c.args.block.now.source.now 1) whole (tag_one (language_of g.F.ParseFilter.makes g.T.ParseTag.gives g.B.ParseBlock.block
    c.args.language.now) c.args.block.now.source.now 1 own t es) in
    let before : c.in_ok-nodes.nodes.items ≡ c.pop.new.self.items = c.in-None.ensures.items ∙ append-nil c.pop.new.self.items in
    let empty : c.pop.new.self.items ≡ [] =
    nothing_left c.pop.new.self.items (λ some. (c.in-None.ensures.variant).1
    (omega (arith, some, ap length before, c.in_ok-nodes.nodes.ok.0))) in
    absurd (not_empty _ (ap (shapes_of g.F.Filter.Meant.shape g.T.Node.Meant.shape g.B.Node.Meant.shape) (before ∙ empty)) one)

pub returns-in_err-nodes-clause-value : goal.returns-in_err-nodes-clause-value
returns-in_err-nodes-clause-value g c own t is es cover =
    let p = err_from_is_err_and c.from_residual-in_err-nodes.result c.from_residual-in_err-nodes.ensures.1 in
    rw (p.1, p.2) (let first : tag_read (language_of g.F.ParseFilter.makes g.T.ParseTag.gives g.B.ParseBlock.block c.args.language.now) own
    1 [] [] t ≡ Ok (next_view g.F.Filter.Meant.shape g.T.Node.Meant.shape g.B.Node.Meant.shape g.B.Plan.Meant.shape g.B.ParseBlock.block
    c.in_ok-next.next c.dispatch.new.state) =
    sym (ap (λ os. tag_read (language_of g.F.ParseFilter.makes g.T.ParseTag.gives g.B.ParseBlock.block c.args.language.now) own 1
    (blocks_view g.F.Filter.Meant.shape g.T.Node.Meant.shape g.B.Node.Meant.shape g.B.Plan.Meant.shape g.B.ParseBlock.block os)
    (shapes_of g.F.Filter.Meant.shape g.T.Node.Meant.shape g.B.Node.Meant.shape c.new-2.result.items) t) c.new.ensures.items
    ∙ ap (λ ns. tag_read (language_of g.F.ParseFilter.makes g.T.ParseTag.gives g.B.ParseBlock.block c.args.language.now) own 1 []
    (shapes_of g.F.Filter.Meant.shape g.T.Node.Meant.shape g.B.Node.Meant.shape ns) t) c.new-2.ensures.items)
    ∙ c.in_ok-next.ensures own t is in
    same_fault _ _ _ (ap (λ r. ok_then r (λ n. read_closed (language_of g.F.ParseFilter.makes g.T.ParseTag.gives g.B.ParseBlock.block
    c.args.language.now) c.args.block.now.source.now 1 n es)) first) (c.in_err-nodes.ensures.value es cover))

pub returns-in_err-next-clause-value : goal.returns-in_err-next-clause-value
returns-in_err-next-clause-value g c own t is es cover =
    let first =
    ap (λ os. tag_read (language_of g.F.ParseFilter.makes g.T.ParseTag.gives g.B.ParseBlock.block c.args.language.now) own 1
    (blocks_view g.F.Filter.Meant.shape g.T.Node.Meant.shape g.B.Node.Meant.shape g.B.Plan.Meant.shape g.B.ParseBlock.block os)
    (shapes_of g.F.Filter.Meant.shape g.T.Node.Meant.shape g.B.Node.Meant.shape c.new-2.result.items) t) c.new.ensures.items
    ∙ ap (λ ns. tag_read (language_of g.F.ParseFilter.makes g.T.ParseTag.gives g.B.ParseBlock.block c.args.language.now) own 1 []
    (shapes_of g.F.Filter.Meant.shape g.T.Node.Meant.shape g.B.Node.Meant.shape ns) t) c.new-2.ensures.items in
    let p = err_from_is_err_and c.from_residual.result c.from_residual.ensures.1 in
    rw (p.1, p.2) (then_refused _ _ (λ n. read_closed (language_of g.F.ParseFilter.makes g.T.ParseTag.gives g.B.ParseBlock.block
    c.args.language.now) c.args.block.now.source.now 1 n es) (same_fault _ _ _ (sym first) (c.in_err-next.ensures own t is)))
