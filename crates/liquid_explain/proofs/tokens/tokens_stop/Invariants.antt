use Rattle.std.proofs.Common.{length}
use denote.Text.{Utf8}
use denote.Shadow.{shadow}
use Rattle.liquid_grammar.specs.meaning.Rules.{◌▷◌}
use Rattle.liquid_grammar.specs.meaning.Grammar.{White}
use Rattle.liquid_grammar.specs.meaning.Tokens.{TokenRule}
use Rattle.liquid_explain.specs.meaning.Tokens.{NextTokenMisses}
use Rattle.liquid_explain.specs.meaning.Farthest.{IsFarthest}
use Rattle.liquid_explain.proofs.AlongLemmas.{Walked, Passed}
use Rattle.liquid_explain.proofs.tokens.tokens_stop.Given as goal

abbrev pub invariant-tokens : goal.invariant-tokens
invariant-tokens l =
    shadow (Utf8 l.rest)
    × record {
      walk : Walked (White ▷ TokenRule) l.s l.rest;
      far : IsFarthest (Passed NextTokenMisses l.s l.rest walk) l.s l.stop;
    }

abbrev pub decreases-tokens : goal.decreases-tokens
decreases-tokens l = length l.rest
