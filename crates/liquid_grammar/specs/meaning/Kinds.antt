-- Kinds of token, by their shapes.
use Rattle.std.specs.Prelude.{List, [], ◌∷◌, ℕ, Option, Some, None}
use Rattle.liquid_grammar.specs.meaning.Literals.{Literal}
use Rattle.liquid_grammar.specs.meaning.Values.{Value, literal_value, variable_value, Indexes, no_index, more_indexes}
use Rattle.liquid_grammar.specs.meaning.Tokens.{Filter, Token, range, chain, symbol}

-- what a token is: a chain without filters is its value, and a variable without indexes an identifier
pub data Kind : Type 0 where
  range_kind : Kind
  symbol_kind : Kind
  filtered_kind : Kind
  literal_kind : Literal → Kind
  variable_kind : Kind
  identifier_kind : List ℕ → Kind

abbrev pub variable_kind_of : List ℕ → Indexes → Kind
variable_kind_of name no_index = identifier_kind name
variable_kind_of name (more_indexes index indexes) = variable_kind

abbrev pub value_kind : Value → Kind
value_kind (literal_value place following literal) = literal_kind literal
value_kind (variable_value place following name indexes) = variable_kind_of name indexes

abbrev pub chain_kind : Value → List Filter → Kind
chain_kind value [] = value_kind value
chain_kind value (filter ∷ filters) = filtered_kind

abbrev pub kind_of : Token → Kind
kind_of (range r) = range_kind
kind_of (chain c) = chain_kind c.what.0 c.what.1
kind_of (symbol s) = symbol_kind

-- the identifier, if the kind is one
abbrev pub identifier_of : Kind → Option (List ℕ)
identifier_of (identifier_kind name) = Some name
identifier_of _ = None
