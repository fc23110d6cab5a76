use Rattle.std.proofs.Common.{length}
use denote.Text.{Utf8}
use denote.Shadow.{shadow}
use Rattle.liquid_grammar.specs.meaning.Tokens.{Following, FilterRule}
use Rattle.liquid_explain.specs.meaning.Filters.{NextFilterMisses}
use Rattle.liquid_explain.specs.meaning.Farthest.{IsFarthest}
use Rattle.liquid_explain.proofs.AlongLemmas.{Walked, Passed}
use Rattle.liquid_explain.proofs.filters.filters_stop.Given as goal

abbrev pub invariant-filters : goal.invariant-filters
invariant-filters l =
    shadow (Utf8 l.rest)
    × record {
      walk : Walked (Following 124 FilterRule) l.s l.rest;
      far : IsFarthest (Passed NextFilterMisses l.s l.rest walk) l.s l.stop;
    }

abbrev pub decreases-filters : goal.decreases-filters
decreases-filters l = length l.rest
