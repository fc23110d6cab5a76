use Rattle.liquid_grammar.proofs.TokenExact.{shrinks-identifier, shrinks-value, shrinks-index, shrinks-filter, shrinks-token, exact-value}
use Rattle.liquid_grammar.proofs.laws.matches_take_bytes.Goals as goal

pub returns-clause-identifiers : goal.returns-clause-identifiers
returns-clause-identifiers c = shrinks-identifier

pub returns-clause-values : goal.returns-clause-values
returns-clause-values c = shrinks-value

pub returns-clause-indexes : goal.returns-clause-indexes
returns-clause-indexes c = shrinks-index exact-value

pub returns-clause-filters : goal.returns-clause-filters
returns-clause-filters c = shrinks-filter

pub returns-clause-tokens : goal.returns-clause-tokens
returns-clause-tokens c = shrinks-token
