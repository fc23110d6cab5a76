-- The parts of a matched text, from left to right: what a walk over it finds one after another.
use Rattle.std.specs.Prelude.{◌≡◌, ℕ, Bool, true, false, List, [], ◌∷◌, Option, Some, None, option_map}
use Rattle.liquid_grammar.specs.declared.head.Head.{Head}
use Rattle.liquid_grammar.specs.declared.head.Head.TheVariants as head
use Rattle.liquid_grammar.specs.declared.parts.IndexStart.{IndexStart}
use Rattle.liquid_grammar.specs.declared.parts.IndexStart.TheVariants as start
use Rattle.liquid_grammar.specs.declared.parts.FilterStart.{FilterStart}
use Rattle.liquid_grammar.specs.declared.parts.ChainStep.{ChainStep}
use Rattle.liquid_grammar.specs.declared.parts.ChainStep.TheVariants as step
use Rattle.liquid_grammar.specs.declared.parts.ArgumentStart.{ArgumentStart}
use Rattle.liquid_grammar.specs.declared.parts.TokenText.{TokenText}
use Rattle.liquid_grammar.specs.declared.parts.TokenParts.{TokenParts}
use Rattle.liquid_grammar.specs.declared.parts.TokenParts.TheVariants as parts
use Rattle.liquid_grammar.specs.meaning.Rules.{Rule, Begins, Repeated, Seen, Optional, ◌▷◌}
use Rattle.liquid_grammar.specs.meaning.Grammar.{White, Closer}
use Rattle.liquid_grammar.specs.meaning.Values.{
  Value,
  literal_value,
  variable_value,
  Index,
  named_index,
  bracketed_index,
  gather,
  CloseBracket,
  ValueRule,
  IndexRule,
}
use Rattle.liquid_grammar.specs.meaning.Tokens.{
  Argument,
  positional,
  keyword,
  Filter,
  Chain,
  Token,
  range,
  chain,
  symbol,
  Following,
  ArgumentRule,
  Arguments,
  arguments_of,
  FilterRule,
  ChainRule,
  RangeRule,
  ExpressionStart,
  TagRule,
}
use Rattle.liquid_grammar.specs.meaning.Kinds.{Kind, chain_kind}
use Rattle.liquid_grammar.specs.meaning.KindMeanings.{token_kind_of}
use Rattle.liquid_grammar.specs.meaning.Literals.{Literal}
use Rattle.liquid_grammar.specs.meaning.Meanings.{literal_of}
use Rattle.liquid_grammar.specs.meaning.Bytes.{bar, close_brace, colon, comma}

-- no part is left
pub record NoneLeft {A : Type 0} (s rest : List ℕ) (parts : List A) : Type 0 where
  pub none : parts ≡ []
  pub ends : rest ≡ s

-- a first part up to some place, and the other parts from there on
pub record First {A : Type 0} (Part : List ℕ → A → Type 0) (More : Rule (List A)) (rest : List ℕ) (parts : List A) : Type 0 where
  pub part : A
  pub others : List A
  pub middle : List ℕ
  pub joined : parts ≡ part ∷ others
  pub found : Part middle part
  pub then : More middle rest others

-- a value that is a literal
pub record IsLiteral (s rest : List ℕ) (literal : Literal) (after : List ℕ) (v : Value) : Type 0 where
  pub is : v ≡ literal_value s rest literal
  pub ends : after ≡ rest

-- a value that is a variable, with its indexes after the name
pub record IsVariable (s rest name after : List ℕ) (v : Value) : Type 0 where
  pub indexes : List Index
  pub is : v ≡ variable_value s rest name (gather indexes)
  pub match : Repeated IndexRule after rest indexes

-- the literal or the name that a value begins with, and what follows it
abbrev pub IsHead : List ℕ → List ℕ → Head → List ℕ → Value → Type 0
IsHead s rest (head.Literal literal) after v = IsLiteral s rest (literal_of literal) after v
IsHead s rest (head.Name name) after v = IsVariable s rest name.now after v

-- a value begins here, and this is its beginning
pub record HasHead (s : List ℕ) (h : Head) (after : List ℕ) : Type 0 where
  pub rest : List ℕ
  pub value : Value
  pub match : ValueRule s rest value
  pub head : IsHead s rest h after value

-- an index that is a name
pub record IsNamed (rest name after : List ℕ) (i : Index) : Type 0 where
  pub is : i ≡ named_index name
  pub ends : after ≡ rest

-- an index in brackets: its value, and the close bracket after it
pub record IsBracketed (s rest inner : List ℕ) (i : Index) : Type 0 where
  pub value : Value
  pub following : List ℕ
  pub byte : ℕ
  pub is : i ≡ bracketed_index s rest value
  pub match : ValueRule inner following value
  pub closes : CloseBracket following rest byte

-- the beginning of an index, and what follows it
abbrev pub IsIndex : List ℕ → IndexStart → List ℕ → List ℕ → Index → Type 0
IsIndex s (start.Named name) after rest i = IsNamed rest name.now after i
IsIndex s start.Bracket after rest i = IsBracketed s rest after i

-- the arguments from here on: the first one of a filter is after `:`, each further one after a comma
abbrev pub ArgumentsFrom : Bool → Rule (List Argument)
ArgumentsFrom true = Seen arguments_of (Optional Arguments)
ArgumentsFrom false = Repeated (Following comma ArgumentRule)

abbrev pub separator : Bool → ℕ
separator true = colon
separator false = comma

-- where a filter begins, its name, and its arguments after the name
pub record IsFilter (f : FilterStart) (rest : List ℕ) (filter : Filter) : Type 0 where
  pub place_is : filter.place ≡ f.place.now
  pub after_is : filter.following ≡ rest
  pub name_is : filter.what.0 ≡ f.name.now
  pub arguments : ArgumentsFrom true f.rest.now rest filter.what.1

-- a value as an argument, with or without a name
abbrev pub argument_by : Option (List ℕ) → Value → Argument
argument_by (Some name) value = keyword name value
argument_by None value = positional value

-- the name of an argument, and its value by its beginning
pub record IsArgument (a : ArgumentStart) (rest : List ℕ) (argument : Argument) : Type 0 where
  pub place : List ℕ
  pub value : Value
  pub is : argument ≡ argument_by (option_map (λ name. name.now) a.name) value
  pub head : IsHead place rest a.head a.rest.now value

-- the places of a chain, and its value and filters between them
pub record IsChain (s rest : List ℕ) (c : Chain) : Type 0 where
  pub begins : c.place ≡ s
  pub ends : c.following ≡ rest
  pub middle : List ℕ
  pub value : ValueRule s middle c.what.0
  pub filters : Repeated (Following bar FilterRule) middle rest c.what.1

-- a value begins here
pub record BeginsValue (s : List ℕ) (v : Value) : Type 0 where
  pub rest : List ℕ
  pub match : ValueRule s rest v

-- a range begins at s, and its two values at these places
pub record HasEnds (s rest start stop : List ℕ) : Type 0 where
  pub values : Value × Value
  pub match : RangeRule s rest values
  pub first : BeginsValue start values.0
  pub second : BeginsValue stop values.1

-- a range, by the places where its two values begin
pub record IsRangeToken (place rest start stop : List ℕ) (token : Token) : Type 0 where
  pub values : Value × Value
  pub is : token ≡ range (record { place = place; following = rest; what = values })
  pub match : RangeRule place rest values
  pub first : BeginsValue start values.0
  pub second : BeginsValue stop values.1

-- a chain, by its kind
pub record IsChainToken (kind : Kind) (place rest : List ℕ) (token : Token) : Type 0 where
  pub chain_here : Chain
  pub is : token ≡ chain chain_here
  pub match : ChainRule place rest chain_here
  pub kind_is : kind ≡ chain_kind chain_here.what.0 chain_here.what.1

-- a token by its parts
abbrev pub HasParts : TokenParts → List ℕ → List ℕ → Token → Type 0
HasParts (parts.Range start stop) place rest token = IsRangeToken place rest start.now stop.now token
HasParts (parts.Chain kind) place rest token = IsChainToken (token_kind_of kind) place rest token
HasParts (parts.Symbol text) place rest token = token ≡ symbol (record { place = place; following = rest; what = text.now })

-- where a token begins, what it is made of, and what follows it
pub record IsToken (t : TokenText) (rest : List ℕ) (token : Token) : Type 0 where
  pub ends : t.rest.now ≡ rest
  pub has : HasParts t.parts t.place.now rest token

-- the opening before the chain of an expression, where no tag begins
pub record OpensExpression (s start : List ℕ) : Type 0 where
  pub white : List ℕ
  pub match : ExpressionStart s start white
  pub no_tag : ¬ (Begins TagRule s)

-- the closing after the chain of an expression
pub record ClosesExpression (s rest : List ℕ) : Type 0 where
  pub byte : ℕ
  pub match : (White ▷ Closer close_brace) s rest byte

-- no filter is left here, and no expression ends
pub record Unclosed (s rest : List ℕ) (filters : List Filter) : Type 0 where
  pub none : NoneLeft s rest filters
  pub endless : ¬ (Begins (White ▷ Closer close_brace) s)

-- no filter is left here, and an expression ends
pub record Ended (s rest : List ℕ) (filters : List Filter) (after : List ℕ) : Type 0 where
  pub none : NoneLeft s rest filters
  pub closes : ClosesExpression s after

-- the next filter of an expression, or its end
abbrev pub IsStep : List ℕ → ChainStep → List ℕ → List Filter → Type 0
IsStep s (step.Filter f) rest filters = First (IsFilter f) (Repeated (Following bar FilterRule)) rest filters
IsStep s (step.End after) rest filters = Ended s rest filters after.now

-- what follows the name of the filter, or the end
abbrev pub step_rest : ChainStep → List ℕ
step_rest (step.Filter f) = f.rest.now
step_rest (step.End after) = after.now
