use Rattle.std.proofs.Common.{◌<◌, arith}
use Rattle.liquid_template.proofs.Goings.{finds_none, finds_given, gives_again, ok_again}
use Rattle.liquid_template.proofs.Keeping.{keeps_all, keeps_asked}
use Rattle.liquid_template.proofs.turn.find_within_depth.Goals as goal

pub returns-then-depth-eq0-clause-finds : goal.returns-then-depth-eq0-clause-finds
returns-then-depth-eq0-clause-finds g c = finds_none _ _ _ _ c.if-depth-eq0.true c.too_deep_error.ensures

pub returns-clause-finds : goal.returns-clause-finds
returns-clause-finds g c =
    let h : 0 < c.args.depth = omega arith in
    finds_given _ _ _ _ _ h (gives_again _ _ _ _ c.within_partial.ensures c.find.ensures.gives)

pub returns-clause-small : goal.returns-clause-small
returns-clause-small g c = ok_again _ c.find.result c.within_partial.result c.within_partial.ensures c.find.ensures.small

pub returns-then-depth-eq0-clause-keeps : goal.returns-then-depth-eq0-clause-keeps
returns-then-depth-eq0-clause-keeps g c = keeps_all _ _ _ _ _ _

pub returns-clause-keeps : goal.returns-clause-keeps
returns-clause-keeps g c =
    let h : 0 < c.args.depth = omega arith in
    keeps_asked _ _ _ _ _ _ _ h c.find.ensures.store (λ n. absurd n) c.find.ensures.borrows
