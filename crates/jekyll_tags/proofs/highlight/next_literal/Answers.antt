use Rattle.liquid_parser.specs.meaning.Handed.{expect_literal}
use Rattle.liquid_parser.proofs.NextLemmas.{next_given}
use Rattle.liquid_tags.specs.meaning.Asked.{token_expected}
use Rattle.liquid_value.specs.meaning.View.{view}
use Rattle.jekyll_tags.proofs.highlight.next_literal.Goals as goal

pub returns : goal.returns
returns c ts at =
    next_given view expect_literal token_expected ts c.in_ok-token.token c.expect_next.new.self c.in_ok-expect_literal.field-0
    c.into_result.result
    (c.in_ok-token.ensures.value ts at) c.in_ok-expect_literal.ensures c.into_result.ensures
