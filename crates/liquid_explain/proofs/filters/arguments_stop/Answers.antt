use Rattle.liquid_explain.proofs.RuleLemmas.{no_separator, after_separator}
use Rattle.liquid_explain.proofs.filters.arguments_stop.Goals as goal

pub returns-in-None : goal.returns-in-None
returns-in-None c =
    no_separator 58 c.args.s.now _ _ _ c.skip_white-place.ensures.value c.in-None.ensures.value c.want.ensures

pub returns-in-Some : goal.returns-in-Some
returns-in-Some c =
    after_separator 58 c.args.s.now _ _ _ _ _ c.skip_white-place.ensures.value c.in-Some.ensures.value c.skip_white.ensures.value
    c.list_stop.ensures
