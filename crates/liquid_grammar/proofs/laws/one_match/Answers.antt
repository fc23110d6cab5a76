use Rattle.liquid_grammar.proofs.MatchLemmas.{single}
use Rattle.liquid_grammar.proofs.GrammarExact.{exact-white, exact-identifier}
use Rattle.liquid_grammar.proofs.TokenExact.{
  exact-literal,
  exact-value,
  exact-index,
  exact-close_bracket,
  exact-argument,
  exact-filter,
  exact-chain,
  exact-token,
  exact-full_expression,
  exact-tag,
}
use Rattle.liquid_grammar.proofs.laws.one_match.Goals as goal

pub returns-clause-identifiers : goal.returns-clause-identifiers
returns-clause-identifiers c = single exact-identifier

pub returns-clause-literals : goal.returns-clause-literals
returns-clause-literals c = single exact-literal

pub returns-clause-values : goal.returns-clause-values
returns-clause-values c = single exact-value

pub returns-clause-indexes : goal.returns-clause-indexes
returns-clause-indexes c = single (exact-index exact-value)

pub returns-clause-arguments : goal.returns-clause-arguments
returns-clause-arguments c = single exact-argument

pub returns-clause-filters : goal.returns-clause-filters
returns-clause-filters c = single exact-filter

pub returns-clause-chains : goal.returns-clause-chains
returns-clause-chains c = single exact-chain

pub returns-clause-tokens : goal.returns-clause-tokens
returns-clause-tokens c = single exact-token

pub returns-clause-expressions : goal.returns-clause-expressions
returns-clause-expressions c = single exact-full_expression

pub returns-clause-tags : goal.returns-clause-tags
returns-clause-tags c = single exact-tag

pub returns-clause-whites : goal.returns-clause-whites
returns-clause-whites c = single exact-white

pub returns-clause-close_brackets : goal.returns-clause-close_brackets
returns-clause-close_brackets c = single exact-close_bracket
