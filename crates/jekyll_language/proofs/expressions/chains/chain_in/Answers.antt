use Rattle.std.proofs.Common.{◌∙◌}
use Rattle.liquid_parser.specs.meaning.Plugins.{registry_of}
use Rattle.liquid_plugins.specs.meaning.ExpressionOf.{chain_of}
use Rattle.jekyll_language.specs.meaning.expressions.Chains.{chain_given, echo_tag}
use Rattle.jekyll_language.proofs.WholeTagLemmas.{read_of_source}
use Rattle.jekyll_language.proofs.expressions.chains.chain_in.Goals as goal

pub returns : goal.returns
returns g c =
    let filters = registry_of g.F.ParseFilter.makes c.args.filters.now in
    read_of_source (chain_of g.F.Filter.Meant.shape) (chain_given filters) echo_tag c.args.text.now c.as_str.result.now
    c.read_tag.result c.if_read.result (c.as_str.ensures.value ∙ c.in_ok-source.ensures) c.read_tag.ensures c.if_read.ensures
