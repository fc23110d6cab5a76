use Rattle.liquid_tags.specs.meaning.Asked.{token_expected}
use Rattle.liquid_tags.specs.meaning.BlockPlugins.{expect_series}
use Rattle.liquid_tags.specs.meaning.Series.{series_of}
use Rattle.liquid_parser.proofs.NextLemmas.{next_given}
use Rattle.liquid_tags.proofs.block_plugins.next_series.Goals as goal

pub returns : goal.returns
returns c ts at =
    next_given series_of expect_series token_expected ts c.in_ok-token.token c.expect_next.new.self c.in_ok-expect_series.field-0
    c.into_result.result
    (c.in_ok-token.ensures.value ts at) c.in_ok-expect_series.ensures c.into_result.ensures
