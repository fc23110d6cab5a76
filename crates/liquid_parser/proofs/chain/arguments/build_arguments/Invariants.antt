use denote.Text.{Utf8}
use denote.Shadow.{shadow}
use Rattle.std.proofs.Common.{◌≤◌, ℕ, List, length, map, true}
use Rattle.liquid_grammar.specs.meaning.Faults.{argument_fault, first_fault}
use Rattle.liquid_grammar.specs.meaning.Parts.{ArgumentsFrom}
use Rattle.liquid_grammar.specs.meaning.Tokens.{Argument}
use Rattle.liquid_plugins.specs.meaning.ExpressionOf.{expression_of}
use Rattle.liquid_parser.specs.meaning.Handed.{arguments_meant}
use Rattle.liquid_parser.proofs.ArgumentsLeft.{Left}
use Rattle.liquid_parser.proofs.chain.arguments.build_arguments.Given as goal

abbrev pub decreases-arguments : goal.decreases-arguments
decreases-arguments l = length l.rest

-- what is left of the arguments is here
abbrev pub invariant-arguments : goal.invariant-arguments
invariant-arguments l =
    shadow (Utf8 l.rest)
    × (length l.rest ≤ length l.s)
    × ((end : List ℕ) (given : List Argument) → ArgumentsFrom true l.s end given
    → Left l.is_first l.rest end (record {
      positional = map expression_of l.positional.items;
      keyword = map (λ k. (k.0.now, expression_of k.1)) l.keyword.items;
    }) (arguments_meant given) (first_fault argument_fault given))
