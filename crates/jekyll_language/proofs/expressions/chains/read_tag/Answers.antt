use Rattle.std.proofs.Common.{Ok, Err, sym, subst}
use Rattle.liquid_error.specs.meaning.Told.{Gives}
use Rattle.liquid_parser.specs.meaning.Plugins.{AreTokens, registry_of}
use Rattle.liquid_plugins.specs.meaning.ExpressionOf.{chain_of}
use Rattle.jekyll_language.specs.meaning.expressions.Chains.{chain_given}
use Rattle.jekyll_language.proofs.WholeTagLemmas.{tag_is_read}
use Rattle.jekyll_language.proofs.expressions.chains.read_tag.Goals as goal

pub returns-in-Ok : goal.returns-in-Ok
returns-in-Ok g c =
    let filters = registry_of g.F.ParseFilter.makes c.args.filters.now in
    let read = tag_is_read (chain_given filters) c.args.source.now (Ok c.in-Ok.tag) c.in-Ok.ensures.tag c.in-Ok.ensures.none in
    subst (λ m. Gives (chain_of g.F.Filter.Meant.shape) c.read_tokens.result m) (sym read.2)
    (c.read_tokens.ensures read.0 (subst (λ t. AreTokens t read.0) (sym c.into_tokens.ensures) read.1))

pub returns-in-Err : goal.returns-in-Err
returns-in-Err g c =
    let filters = registry_of g.F.ParseFilter.makes c.args.filters.now in
    tag_is_read (chain_given filters) c.args.source.now (Err c.in-Err.error) c.in-Err.ensures.tag c.in-Err.ensures.none
