-- What plug-ins are given: tokens without the text around them, and arguments of filters.
use Rattle.std.specs.Prelude.{
  ℕ,
  ◌-◌,
  List,
  [],
  ◌∷◌,
  map,
  length,
  take,
  Option,
  Some,
  None,
  option_and_then,
  Result,
  Ok,
  Err,
  ok_or,
  unwrap_or,
  codes,
  pos,
}
use Rattle.liquid_error.specs.declared.place.Place.{Place}
use Rattle.liquid_error.specs.meaning.Refusal.{Refusal, located}
use Rattle.liquid_grammar.specs.meaning.Literals as matched
use Rattle.liquid_grammar.specs.meaning.Values as shape
use Rattle.liquid_grammar.specs.meaning.Values.{literal_value, variable_value, named_index, bracketed_index, no_index, more_indexes}
use Rattle.liquid_grammar.specs.meaning.Tokens as token
use Rattle.liquid_grammar.specs.meaning.Tokens.{positional, keyword}
use Rattle.liquid_grammar.specs.meaning.Faults.{integer_of}
use Rattle.liquid_grammar.specs.meaning.Place.{line_and_column}
use Rattle.liquid_scalar.specs.meaning.Scalar.{integer, boolean, text}
use Rattle.liquid_value.specs.meaning.Tree.{Tree, nil, state, scalar}
use Rattle.liquid_value.specs.declared.state.State.TheVariants.{Empty, Blank}
use Rattle.liquid_plugins.specs.meaning.Expression.{ExpressionShape, literal, variable, Indexes, no_indexes, index, as_literal, as_variable}
use Rattle.liquid_plugins.specs.meaning.ArgumentsOf.{Arguments}

-- the value that a literal means; an integer that is too great and a decimal are refused before this is used
abbrev pub literal_tree : matched.Literal → Tree
literal_tree matched.nil = nil
literal_tree matched.empty = state Empty
literal_tree matched.blank = state Blank
literal_tree (matched.truth b) = scalar (boolean b)
literal_tree (matched.text_literal t) = scalar (text t)
literal_tree (matched.integer t) = scalar (integer (unwrap_or (integer_of t) (pos 0)))
literal_tree (matched.decimal t) = nil

-- a value without its places: a literal, or a variable; `.name` is the index `["name"]`
abbrev mutual
  pub expression_meant : shape.Value → ExpressionShape
  expression_meant (literal_value place following l) = literal (literal_tree l)
  expression_meant (variable_value place following name is) = variable (text name) (indexes_meant is)

  pub indexes_meant : shape.Indexes → Indexes
  indexes_meant no_index = no_indexes
  indexes_meant (more_indexes i is) = index (index_meant i) (indexes_meant is)

  pub index_meant : shape.Index → ExpressionShape
  index_meant (named_index name) = literal (scalar (text name))
  index_meant (bracketed_index place following v) = expression_meant v

-- the arguments of a filter, each kind in its order
abbrev pub no_arguments : Arguments
no_arguments = record { positional = []; keyword = [] }

abbrev pub with_argument : token.Argument → Arguments → Arguments
with_argument (positional value) a = record a { positional = expression_meant value ∷ a.positional }
with_argument (keyword name value) a = record a { keyword = (name, expression_meant value) ∷ a.keyword }

abbrev pub arguments_meant : List token.Argument → Arguments
arguments_meant [] = no_arguments
arguments_meant (a ∷ more) = with_argument a (arguments_meant more)

-- a filter that a chain names, and its arguments
pub record Call : Type 0 where
  pub name : List ℕ
  pub arguments : Arguments

abbrev pub call_of : token.Filter → Call
call_of f = record { name = f.what.0; arguments = arguments_meant f.what.1 }

-- a range, a chain or a symbol
pub data TokenShape : Type 0 where
  range : (from to : ExpressionShape) → TokenShape
  chain : ExpressionShape → List Call → TokenShape
  symbol : List ℕ → TokenShape

-- a token, its text, its place, and the place just after it
pub record Token : Type 0 where
  pub shape : TokenShape
  pub text : List ℕ
  pub place : Place
  pub following : Place

-- the tokens that are left, and the place just after what came before them
pub record Tokens : Type 0 where
  pub following : Place
  pub left : List Token

-- line and column of a place in the source, given as the rest of the source there
abbrev pub place_in : List ℕ → List ℕ → Place
place_in source place =
    let at : ℕ × ℕ = line_and_column (take (length source - length place) source) in
    record { line = at.0; column = at.1 }

-- the text between a place and a later place
abbrev pub slice_between : List ℕ → List ℕ → List ℕ
slice_between place following = take (length place - length following) place

abbrev pub token_between : List ℕ → List ℕ → List ℕ → TokenShape → Token
token_between source place following shape =
    record { shape = shape; text = slice_between place following; place = place_in source place; following = place_in source following }

abbrev pub handed_token : List ℕ → token.Token → Token
handed_token source (token.range r) =
    token_between source r.place r.following (range (expression_meant r.what.0) (expression_meant r.what.1))
handed_token source (token.chain c) = token_between source c.place c.following (chain (expression_meant c.what.0) (map call_of c.what.1))
handed_token source (token.symbol s) = token_between source s.place s.following (symbol s.what)

-- the tokens of a tag, after its name
abbrev pub handed : List ℕ → token.Tag → Tokens
handed source tag = record { following = place_in source tag.1.place; left = map (handed_token source) tag.1.what }

-- the refusal of a token by a message of the plug-in's own
abbrev pub token_error : List ℕ → Token → Refusal
token_error message t = located message t.place

-- the refusal of a token that a plug-in does not expect
abbrev pub unexpected : Token → Refusal
unexpected t = token_error (codes "Unexpected token") t

-- what matched; otherwise this token is refused
abbrev pub or_unexpected : {A : Type 0} → Token → Option A → Result A Refusal
or_unexpected t found = ok_or found (unexpected t)

abbrev pub first_of : List Token → Option (Token × Tokens)
first_of [] = None
first_of (t ∷ more) = Some (t, record { following = t.following; left = more })

-- the next token and those after it
abbrev pub next : Tokens → Option (Token × Tokens)
next ts = first_of ts.left

-- the same; otherwise a refusal with this message just after the last token
abbrev pub expect_next : List ℕ → Tokens → Result (Token × Tokens) Refusal
expect_next message ts = ok_or (next ts) (located message ts.following)

abbrev pub none_left : List Token → Result (Unit {0}) Refusal
none_left [] = Ok tt
none_left (t ∷ ts) = Err (unexpected t)

-- no token; otherwise the next one is refused
abbrev pub expect_nothing : Tokens → Result (Unit {0}) Refusal
expect_nothing ts = none_left ts.left

-- the value of a chain without filters
abbrev pub value_of : TokenShape → Option ExpressionShape
value_of (chain e []) = Some e
value_of (chain e (f ∷ fs)) = None
value_of (range a b) = None
value_of (symbol s) = None

-- the name of a variable without indexes
abbrev pub as_identifier : ExpressionShape → Option (List ℕ)
as_identifier (variable (text name) no_indexes) = Some name
as_identifier (variable name rest) = None
as_identifier (literal t) = None

abbrev pub expect_value : Token → Option ExpressionShape
expect_value t = value_of t.shape

abbrev pub expect_variable : Token → Option ExpressionShape
expect_variable t = option_and_then as_variable (value_of t.shape)

abbrev pub expect_literal : Token → Option Tree
expect_literal t = option_and_then as_literal (value_of t.shape)

abbrev pub expect_identifier : Token → Option (List ℕ)
expect_identifier t = option_and_then as_identifier (value_of t.shape)

abbrev pub ends_of : TokenShape → Option (ExpressionShape × ExpressionShape)
ends_of (range a b) = Some (a, b)
ends_of (chain e fs) = None
ends_of (symbol s) = None

-- the two ends of a range
abbrev pub expect_range : Token → Option (ExpressionShape × ExpressionShape)
expect_range t = ends_of t.shape
