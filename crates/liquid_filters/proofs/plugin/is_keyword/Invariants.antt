use Rattle.std.proofs.Common.{◌≡◌, drop, map}
use Rattle.liquid_filters.specs.meaning.Calls.{is_among}
use Rattle.liquid_filters.proofs.plugin.is_keyword.Given as goal

abbrev pub invariant-loop-keyword : goal.invariant-loop-keyword
invariant-loop-keyword l =
    is_among l.name (map (λ p. p.name.now) (drop l.keyword-index l.keywords)) ≡ is_among l.name (map (λ p. p.name.now) l.keywords)
