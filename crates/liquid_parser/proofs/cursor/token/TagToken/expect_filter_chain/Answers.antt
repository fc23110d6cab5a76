use Rattle.std.proofs.Common.{Some, map, refl, sym, ap, ◌∙◌}
use Rattle.std.specs.Result.{result_ok}
use Rattle.liquid_error.specs.meaning.Told.{told}
use Rattle.liquid_plugins.specs.meaning.ExpressionOf.{expression_of}
use Rattle.liquid_parser.specs.meaning.Cursors.{chain_made}
use Rattle.liquid_parser.specs.meaning.Plugins.{registry_of}
use Rattle.liquid_parser.proofs.ChainMade.{chain_expected, nothing_made}
use Rattle.liquid_parser.proofs.cursor.token.TagToken.expect_filter_chain.Goals as goal

pub returns-in-Some : goal.returns-in-Some
returns-in-Some g c t is =
    let found = c.in_ok-entry.ensures t is in
    let shape = rw c.in-Some.is at found in
    let made =
    c.new-in-Some.ensures ∙ ap (λ items. record { entry = expression_of c.in-Some.entry; filters = map g.F.Filter.Meant.shape items })
    c.new.ensures.items in
    ap (chain_made (registry_of g.F.ParseFilter.makes c.args.filters.now)) shape ∙ ap Some (sym made)

pub returns-in-Ok : goal.returns-in-Ok
returns-in-Ok g c t is =
    let read = chain_expected (registry_of g.F.ParseFilter.makes c.args.filters.now) c.args.self t c.in-Chain.field-0 is c.in-Chain.is in
    read.is ∙ ap result_ok (c.in-Ok.ensures c.args.self.text.rest.now read.shape read.match read.fine)

pub returns-in-Chain : goal.returns-in-Chain
returns-in-Chain g c t is =
    let read = chain_expected (registry_of g.F.ParseFilter.makes c.args.filters.now) c.args.self t c.in-Chain.field-0 is c.in-Chain.is in (
      read.is ∙ nothing_made (told c.in-Err.error) _ c.is_memory.result
          (c.in-Err.ensures c.args.self.text.rest.now read.shape read.match read.fine)
          (λ none. c.is_memory.ensures.1 none) c.if-is_memory.false,
      refl,
    )
