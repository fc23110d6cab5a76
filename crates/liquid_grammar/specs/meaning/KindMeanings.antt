-- What the kinds of the program mean.
use Rattle.std.specs.Prelude.{◌≡◌, ℕ, List, Option, option_map}
use Rattle.std.specs.Borrow.{Bor}
use Rattle.liquid_grammar.specs.declared.kind.TokenKind.{TokenKind}
use Rattle.liquid_grammar.specs.declared.kind.TokenKind.TheVariants.{Range, Symbol, Filtered, Literal, Variable, Identifier}
use Rattle.liquid_grammar.specs.meaning.Values as shape
use Rattle.liquid_grammar.specs.meaning.Tokens.{Token, Chain, ChainRule, TokenRule}
use Rattle.liquid_grammar.specs.meaning.Kinds.{
  Kind,
  range_kind,
  symbol_kind,
  filtered_kind,
  literal_kind,
  variable_kind,
  identifier_kind,
  value_kind,
  chain_kind,
  kind_of,
}
use Rattle.liquid_grammar.specs.meaning.Meanings.{literal_of}

-- the kind with its texts as bytes
abbrev pub token_kind_of : TokenKind → Kind
token_kind_of Range = range_kind
token_kind_of Symbol = symbol_kind
token_kind_of Filtered = filtered_kind
token_kind_of (Literal literal) = literal_kind (literal_of literal)
token_kind_of Variable = variable_kind
token_kind_of (Identifier name) = identifier_kind name.now

-- a token of this kind is matched at the beginning of s
pub record HasKind (s : List ℕ) (kind : TokenKind) : Type 0 where
  pub rest : List ℕ
  pub shape : Token
  pub match : TokenRule s rest shape
  pub is : token_kind_of kind ≡ kind_of shape

-- a chain of this kind is matched at the beginning of s
pub record HasChainKind (s : List ℕ) (kind : TokenKind) : Type 0 where
  pub rest : List ℕ
  pub shape : Chain
  pub match : ChainRule s rest shape
  pub is : token_kind_of kind ≡ chain_kind shape.what.0 shape.what.1

-- the result is the kind of the chain that the reader found
abbrev pub FindsKind : Option TokenKind → Option (Chain × List ℕ) → Type 0
FindsKind result found = option_map token_kind_of result ≡ option_map (λ a. chain_kind a.0.what.0 a.0.what.1) found

-- the result is the kind of the value that the reader found, and the rest that the reader left
abbrev pub FindsValueKind : Option (TokenKind × Bor (List ℕ)) → Option (shape.Value × List ℕ) → Type 0
FindsValueKind result found = option_map {U = Kind × List ℕ} (λ p. (token_kind_of p.0, p.1.now)) result ≡ option_map
    (λ a. (value_kind a.0, a.1)) found
