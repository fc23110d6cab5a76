use Rattle.std.proofs.Common.{Ok, sym, ap, ◌∙◌}
use Rattle.std.proofs.lemmas.Result.{err_from_is_err_and}
use Rattle.liquid_error.specs.meaning.Refusal.{ok_then}
use Rattle.liquid_plugins.specs.meaning.Nodes.{chain_node}
use Rattle.liquid_parser.specs.meaning.Plugins.{registry_of}
use Rattle.liquid_parser.proofs.NameLemmas.{name_read}
use Rattle.liquid_parser.proofs.StepLemmas.{chain_shape, then_refused}
use Rattle.liquid_parser.proofs.cursor.element.Exp.parse.Goals as goal

pub returns : goal.returns
returns g c source chain is =
    ap (λ r. ok_then r (λ made. Ok (chain_node made))) (rw is.source_is at c.in_ok-chain.ensures chain.following chain is.match is.fine)
    ∙ ap (λ n. Ok n) (sym (chain_shape g.F.Filter.Meant.shape g.T.Node.Meant.shape g.B.Node.Meant.shape c.left_of-2.result
    c.in_ok-chain.chain))

pub returns-in_err-chain : goal.returns-in_err-chain
returns-in_err-chain g c source chain is =
    let p = err_from_is_err_and c.from_residual-in_err-chain.result c.from_residual-in_err-chain.ensures.1 in
    rw (p.1, p.2) (then_refused _ _ (λ made. Ok (chain_node made))
    (rw is.source_is at c.in_err-chain.ensures chain.following chain is.match is.fine))

pub returns-in-Some : goal.returns-in-Some
returns-in-Some g c source chain is =
    ap (λ r. ok_then r (λ made. Ok (chain_node made))) (name_read
    (registry_of g.F.ParseFilter.makes c.args.language.now.filters) source _ chain (rw c.in-Some.is at is.name_is))
    ∙ ap (λ n. Ok n) (sym c.in_ok-name_node.ensures)
