use Rattle.std.proofs.lemmas.Result.{err_from_is_err_and}
use Rattle.liquid_parser.proofs.ElementLemmas.{raw_over, tag_over, tag_not_over, expression_over, expression_not_over, invalid_over}
use Rattle.liquid_parser.proofs.cursor.element.check_element.Goals as goal

pub returns-in-Raw : goal.returns-in-Raw
returns-in-Raw c following e is m = raw_over c.args.source c.args.place.now following c.in-Raw.text e (rw c.in-Raw.is at m)

pub returns-in_ok-check-in-Tag : goal.returns-in_ok-check-in-Tag
returns-in_ok-check-in-Tag c following e is m =
    tag_over c.args.source c.args.place.now following c.parts_are_matches.ensures.tags c.in-Tag.tag e is
    (rw c.in-Tag.is at m) c.in_ok-check-in-Tag.ensures

pub returns-in_err-check-in-Tag : goal.returns-in_err-check-in-Tag
returns-in_err-check-in-Tag c following e is m =
    let p = err_from_is_err_and c.from_residual.result c.from_residual.ensures.1 in
    rw (p.1, p.2) (tag_not_over c.args.source c.args.place.now following c.in-Tag.tag _ e
    (rw c.in-Tag.is at m) c.in_err-check-in-Tag.ensures)

pub returns-in_ok-check-in-Expression : goal.returns-in_ok-check-in-Expression
returns-in_ok-check-in-Expression c following e is m =
    expression_over c.args.source c.args.place.now following c.parts_are_matches.ensures.expressions c.in-Expression.expression _ e is
    (rw c.in-Expression.is at m) c.in_ok-check-in-Expression.ensures c.identifier.ensures

pub returns-in_err-check-in-Expression : goal.returns-in_err-check-in-Expression
returns-in_err-check-in-Expression c following e is m =
    let p = err_from_is_err_and c.from_residual-in_err-check-in-Expression.result c.from_residual-in_err-check-in-Expression.ensures.1 in
    rw (p.1, p.2) (expression_not_over c.args.source c.args.place.now following c.in-Expression.expression _ e
    (rw c.in-Expression.is at m) c.in_err-check-in-Expression.ensures)

pub returns-in-Invalid : goal.returns-in-Invalid
returns-in-Invalid c following e is m =
    invalid_over c.args.source c.args.place.now following c.in-Invalid.text c.match_white.result.1 _ e is
    (rw c.in-Invalid.is at m) c.match_white.ensures.value
