use Rattle.std.proofs.Common.{sym, ap, subst}
use Rattle.std.proofs.lemmas.Result.{err_from_is_err_and}
use Rattle.liquid_error.specs.meaning.Refusal.{ok_then}
use Rattle.liquid_parser.specs.steps.Views.{state_view, past_escaped, LeavesAt}
use Rattle.liquid_parser.proofs.StepLemmas.{then_refused}
use Rattle.liquid_parser.proofs.reading.advance.advance.Goals as goal

pub returns-in-Among-clause-value : goal.returns-in-Among-clause-value
returns-in-Among-clause-value g c own after e m es cover = (
  es,
  cover,
  ap (λ r. ok_then r (λ n. past_escaped c.args.source.now n es))
      (rw c.in-Among.is at c.in_ok-read_element.ensures own after e m),
)

pub returns-in-Escaped-clause-value : goal.returns-in-Escaped-clause-value
returns-in-Escaped-clause-value g c own after e m es cover =
    subst (λ x. LeavesAt (state_view g.F.Filter.Meant.shape g.T.Node.Meant.shape g.B.Node.Meant.shape g.B.Plan.Meant.shape
    g.B.ParseBlock.block c.read_escaped.new.state) c.read_escaped.result x)
    (sym (ap (λ r. ok_then r (λ n. past_escaped c.args.source.now n es))
    (rw c.in-Escaped.is at c.in_ok-read_element.ensures own after e m))) (c.read_escaped.ensures.value es cover)

pub returns-in_err-read_element-clause-value : goal.returns-in_err-read_element-clause-value
returns-in_err-read_element-clause-value g c own after e m es cover =
    let p = err_from_is_err_and c.from_residual.result c.from_residual.ensures.1 in
    rw (p.1, p.2) (then_refused _ _ (λ n. past_escaped c.args.source.now n es) (c.in_err-read_element.ensures own after e m))
