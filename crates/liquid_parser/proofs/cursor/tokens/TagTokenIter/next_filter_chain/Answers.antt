use Rattle.std.proofs.lemmas.Result.{err_from_is_err_and}
use Rattle.liquid_error.specs.meaning.Told.{told}
use Rattle.liquid_plugins.specs.meaning.ExpressionOf.{chain_of}
use Rattle.liquid_parser.specs.meaning.Cursors.{expect_filter_chain}
use Rattle.liquid_parser.specs.meaning.Plugins.{registry_of}
use Rattle.liquid_parser.proofs.NextLemmas.{next_taken, next_refused, none_given}
use Rattle.liquid_parser.proofs.cursor.tokens.TagTokenIter.next_filter_chain.Goals as goal

pub returns-clause-value : goal.returns-clause-value
returns-clause-value g c ts at =
    next_taken (chain_of g.F.Filter.Meant.shape) (expect_filter_chain (registry_of g.F.ParseFilter.makes c.args.filters.now))
    c.args.message.now ts c.in_ok-token.token c.expect_next.new.self c.in_ok-expect_filter_chain.field-0 c.in_ok-chain.chain
    (c.in_ok-token.ensures.value ts at) c.in_ok-expect_filter_chain.ensures c.in_ok-chain.ensures

pub returns-in_err-chain-clause-value : goal.returns-in_err-chain-clause-value
returns-in_err-chain-clause-value g c ts at =
    let p = err_from_is_err_and c.from_residual-in_err-chain.result c.from_residual-in_err-chain.ensures.1 in
    rw (p.1, p.2) (next_refused (chain_of g.F.Filter.Meant.shape)
    (expect_filter_chain (registry_of g.F.ParseFilter.makes c.args.filters.now)) c.args.message.now ts c.in_ok-token.token
    c.expect_next.new.self c.in_ok-expect_filter_chain.field-0 (told c.in_err-chain.field-0.0)
    (c.in_ok-token.ensures.value ts at) c.in_ok-expect_filter_chain.ensures c.in_err-chain.ensures)

pub returns-in_err-token-clause-value : goal.returns-in_err-token-clause-value
returns-in_err-token-clause-value g c ts at =
    let p = err_from_is_err_and c.from_residual.result c.from_residual.ensures.1 in
    rw (p.1, p.2) (none_given (chain_of g.F.Filter.Meant.shape) (expect_filter_chain (registry_of g.F.ParseFilter.makes c.args.filters.now))
    c.args.message.now ts c.expect_next.new.self c.in_err-token.field-0.0 (c.in_err-token.ensures.value ts at))
