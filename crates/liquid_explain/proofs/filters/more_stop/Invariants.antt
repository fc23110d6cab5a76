use Rattle.std.proofs.Common.{length}
use denote.Text.{Utf8}
use denote.Shadow.{shadow}
use Rattle.liquid_grammar.specs.meaning.Tokens.{Following, ArgumentRule}
use Rattle.liquid_explain.specs.meaning.Filters.{NextArgumentMisses}
use Rattle.liquid_explain.specs.meaning.Farthest.{IsFarthest}
use Rattle.liquid_explain.proofs.AlongLemmas.{Walked, Passed}
use Rattle.liquid_explain.proofs.filters.more_stop.Given as goal

abbrev pub invariant-arguments : goal.invariant-arguments
invariant-arguments l =
    shadow (Utf8 l.rest)
    × record {
      walk : Walked (Following 44 ArgumentRule) l.s l.rest;
      far : IsFarthest (Passed NextArgumentMisses l.s l.rest walk) l.s l.stop;
    }

abbrev pub decreases-arguments : goal.decreases-arguments
decreases-arguments l = length l.rest
