use Rattle.std.proofs.Common.{◌≡◌, Err, sym, subst}
use Rattle.std.specs.Prelude.{IfSome}
use Rattle.std.proofs.lemmas.Result.{err_from_is_err_and}
use Rattle.liquid_error.specs.meaning.Told.{told}
use Rattle.liquid_plugins.specs.meaning.NodesOf.{shapes_of}
use Rattle.liquid_parser.specs.meaning.ElementReading.{read_closed}
use Rattle.liquid_parser.specs.meaning.Plugins.{language_of}
use Rattle.liquid_parser.specs.steps.Views.{open_view, blocks_view, state_view, next_view, LeadsTo}
use Rattle.liquid_parser.proofs.ClosingLemmas.{past_ok, past_err, within_further}
use Rattle.liquid_parser.proofs.reading.closing.read_after_tag.Goals as goal

pub returns-in_ok-after-in-Escaped-clause-value : goal.returns-in_ok-after-in-Escaped-clause-value
returns-in_ok-after-in-Escaped-clause-value g c es cover =
    let e = c.in_ok-after-in-Escaped.ensures.value es cover in
    subst (λ n. LeadsTo (λ v. shapes_of g.F.Filter.Meant.shape g.T.Node.Meant.shape g.B.Node.Meant.shape v.items)
    c.read_until_closed-in-Escaped.result (read_closed (language_of g.F.ParseFilter.makes g.T.ParseTag.gives g.B.ParseBlock.block
    c.args.language.now) c.args.source.now 1 (next_view g.F.Filter.Meant.shape g.T.Node.Meant.shape g.B.Node.Meant.shape
    g.B.Plan.Meant.shape g.B.ParseBlock.block n c.args.state) es)) (sym c.in-Escaped.is)
    (past_ok (language_of g.F.ParseFilter.makes g.T.ParseTag.gives g.B.ParseBlock.block c.args.language.now) c.args.source.now 1
    (λ v. shapes_of g.F.Filter.Meant.shape g.T.Node.Meant.shape g.B.Node.Meant.shape v.items) c.read_until_closed-in-Escaped.result
    (open_view g.F.Filter.Meant.shape g.T.Node.Meant.shape g.B.Node.Meant.shape g.B.Plan.Meant.shape g.B.ParseBlock.block
    c.in-Escaped.block) (blocks_view g.F.Filter.Meant.shape g.T.Node.Meant.shape g.B.Node.Meant.shape g.B.Plan.Meant.shape
    g.B.ParseBlock.block c.args.state.open.items) (state_view g.F.Filter.Meant.shape g.T.Node.Meant.shape g.B.Node.Meant.shape
    g.B.Plan.Meant.shape g.B.ParseBlock.block c.read_escaped.new.state) es e.0 e.2 (c.read_until_closed-in-Escaped.ensures.value e.0 e.1))

pub returns-in_ok-after-in-Escaped-clause-within : goal.returns-in_ok-after-in-Escaped-clause-within
returns-in_ok-after-in-Escaped-clause-within g c =
    within_further c.read_until_closed-in-Escaped.result c.args.text.now c.in_ok-after-in-Escaped.after.now
    c.in_ok-after-in-Escaped.ensures.within c.read_until_closed-in-Escaped.ensures.within

pub returns-in_err-after-in-Escaped-clause-value : goal.returns-in_err-after-in-Escaped-clause-value
returns-in_err-after-in-Escaped-clause-value g c es cover =
    let p = err_from_is_err_and c.from_residual.result c.from_residual.ensures.1 in
    rw (p.1, p.2) (subst (λ n. IfSome (told c.in_err-after-in-Escaped.field-0.0)
    (λ r. read_closed (language_of g.F.ParseFilter.makes g.T.ParseTag.gives g.B.ParseBlock.block c.args.language.now) c.args.source.now 1
    (next_view g.F.Filter.Meant.shape g.T.Node.Meant.shape g.B.Node.Meant.shape g.B.Plan.Meant.shape g.B.ParseBlock.block n c.args.state)
    es ≡ Err r)) (sym c.in-Escaped.is)
    (past_err (language_of g.F.ParseFilter.makes g.T.ParseTag.gives g.B.ParseBlock.block c.args.language.now) c.args.source.now 1
    (open_view g.F.Filter.Meant.shape g.T.Node.Meant.shape g.B.Node.Meant.shape g.B.Plan.Meant.shape g.B.ParseBlock.block
    c.in-Escaped.block) (blocks_view g.F.Filter.Meant.shape g.T.Node.Meant.shape g.B.Node.Meant.shape g.B.Plan.Meant.shape
    g.B.ParseBlock.block c.args.state.open.items) es _ (c.in_err-after-in-Escaped.ensures.value es cover)))
