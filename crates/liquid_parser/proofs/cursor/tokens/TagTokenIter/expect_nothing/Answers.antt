use Rattle.std.proofs.Common.{Err, sym, ◌∙◌, ap}
use Rattle.liquid_error.specs.meaning.Told.{told}
use Rattle.liquid_parser.proofs.TokenLemmas.{none_expected, one_expected, if_some_weaker}
use Rattle.liquid_parser.proofs.cursor.tokens.TagTokenIter.expect_nothing.Goals as goal

pub returns-in-None : goal.returns-in-None
returns-in-None c ts are = none_expected c.args.self ts _ _ are c.match_white.ensures.value c.in-None.ensures.value

pub returns-in-Some : goal.returns-in-Some
returns-in-Some c ts are =
    let found = c.in-Some.ensures.value in
    let refused = one_expected c.args.self ts _ _ _ found.shape are c.match_white.ensures.value found.match in
    if_some_weaker (told c.error_at.result) (λ r is. refused ∙ ap (λ x. Err x) (sym is)) c.error_at.ensures
