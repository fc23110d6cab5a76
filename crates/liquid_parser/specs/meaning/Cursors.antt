-- What the cursor over a tag's tokens returns, and the results of attempts to read a token.
use Rattle.std.specs.Prelude.{
  ◌≡◌,
  ℕ,
  List,
  [],
  ◌∷◌,
  ◌++◌,
  length,
  Option,
  Some,
  None,
  Result,
  Ok,
  Err,
  IfSome,
  bytes_eq,
  if◌then◌else◌,
  ⊤,
  option_and_then,
  option_map,
}
use Rattle.std.specs.Result.{result_ok}
use Rattle.liquid_error.specs.declared.error.Error.{Error}
use Rattle.liquid_error.specs.meaning.Refusal.{Refusal, ok_then}
use Rattle.liquid_error.specs.meaning.Told.{told}
use Rattle.liquid_grammar.specs.meaning.Faults.{token_fault, value_fault}
use Rattle.liquid_grammar.specs.meaning.Kinds.{Kind, value_kind}
use Rattle.liquid_grammar.specs.meaning.Parts.{HasParts}
use Rattle.liquid_grammar.specs.meaning.Tokens as token
use Rattle.liquid_grammar.specs.meaning.Tokens.{TokenRule}
use Rattle.liquid_grammar.specs.meaning.Values.{Value, ValueRule}
use Rattle.liquid_plugins.specs.meaning.ArgumentsOf.{Arguments}
use Rattle.liquid_plugins.specs.meaning.Chain.{ChainShape}
use Rattle.liquid_parser.specs.declared.cursor.token.TagToken.{TagToken}
use Rattle.liquid_parser.specs.declared.cursor.token.TryMatchToken.{TryMatchToken}
use Rattle.liquid_parser.specs.declared.cursor.token.TryMatchToken.TheVariants.{Matches, Fails}
use Rattle.liquid_parser.specs.declared.cursor.tokens.TagTokenIter.{TagTokenIter}
use Rattle.liquid_parser.specs.meaning.Handed.{
  Token,
  Tokens,
  TokenShape,
  Call,
  handed_token,
  chain,
  range,
  symbol,
  expression_meant,
  expect_next,
  or_unexpected,
}
use Rattle.liquid_parser.specs.meaning.Lang.{Filters}
use Rattle.liquid_parser.specs.meaning.Plugins.{AreTokens}

-- a token of the source; its literals and brackets have no fault
pub record IsToken (t : TagToken) (handed : Token) : Type 0 where
  pub matched : token.Token
  pub match : TokenRule t.text.place.now t.text.rest.now matched
  pub parts : HasParts t.text.parts t.text.place.now t.text.rest.now matched
  pub cut : t.text.place.now ≡ t.text.text.now ++ t.text.rest.now
  pub fine : token_fault matched ≡ None
  pub is : handed ≡ handed_token t.source.now matched

-- a token was returned, and the cursor is after it
pub record IsHandedOut (t : TagToken) (cursor : TagTokenIter) (given : Token × Tokens) : Type 0 where
  pub token_is : IsToken t given.0
  pub left : AreTokens cursor given.1

-- what was returned is meant; if that is nothing, the same tokens are left
abbrev pub HandsOut : Option TagToken → TagTokenIter → Tokens → Option (Token × Tokens) → Type 0
HandsOut (Some t) cursor ts meant = (given : Token × Tokens) × (meant ≡ Some given) × IsHandedOut t cursor given
HandsOut None cursor ts meant = (meant ≡ None) × AreTokens cursor ts

-- the same for a call that refuses if no token is left; an out-of-memory error says nothing about the meaning
abbrev pub HandsOutOr : Result TagToken Error → TagTokenIter → Tokens → Result (Token × Tokens) Refusal → Type 0
HandsOutOr (Ok t) cursor ts meant = (given : Token × Tokens) × (meant ≡ Ok given) × IsHandedOut t cursor given
HandsOutOr (Err e) cursor ts meant = IfSome (told e) (λ r. meant ≡ Err r) × AreTokens cursor ts

-- the length of the text after the last token that was returned: each further token makes it less
abbrev pub bytes_left : TagTokenIter → ℕ
bytes_left t = length t.rest.now

-- an attempt to read the token: what it is, or the token again
abbrev pub Tries : {A M : Type 0} → (A → M) → TagToken → TryMatchToken A → Option M → Type 0
Tries of token (Matches x) meant = meant ≡ Some (of x)
Tries of token (Fails t) meant = (meant ≡ None) × (t ≡ token)

-- whether a token is this text
abbrev pub expect_str : List ℕ → Token → Option (Unit {0})
expect_str expected t = if bytes_eq t.text expected then Some tt else None

-- the filter that is made from arguments; none if there is no such filter or if it refuses them
abbrev pub made_by : {F : Type 0} → Option (Arguments → Result F Refusal) → Arguments → Option F
made_by None arguments = None
made_by (Some make) arguments = result_ok (make arguments)

abbrev pub calls_made : {F : Type 0} → Filters F → List Call → Option (List F)
calls_made filters [] = Some []
calls_made filters (c ∷ cs) =
    option_and_then (λ x. option_map (λ xs. x ∷ xs) (calls_made filters cs)) (made_by (filters.get c.name) c.arguments)

abbrev pub chain_made : {F : Type 0} → Filters F → TokenShape → Option (ChainShape F)
chain_made filters (chain e calls) = option_map (λ xs. record { entry = e; filters = xs }) (calls_made filters calls)
chain_made filters (range a b) = None
chain_made filters (symbol s) = None

-- a chain whose filters are all made
abbrev pub expect_filter_chain : {F : Type 0} → Filters F → Token → Option (ChainShape F)
expect_filter_chain filters t = chain_made filters t.shape

-- what matched
abbrev pub matched_of : {A : Type 0} → TryMatchToken A → Option A
matched_of (Matches x) = Some x
matched_of (Fails t) = None

-- the token that is refused, if one is
abbrev pub FailedToken : {A : Type 0} → TryMatchToken A → Token → Type 0
FailedToken (Matches x) handed = ⊤
FailedToken (Fails t) handed = IsToken t handed

-- the next token, as what is expected of it, and the tokens after it; if none is left the refusal has this message
abbrev pub next_as : {A : Type 0} → List ℕ → (Token → Option A) → Tokens → Result (A × Tokens) Refusal
next_as message expect ts =
    ok_then (expect_next message ts) (λ given. ok_then (or_unexpected given.0 (expect given.0)) (λ x. Ok (x, given.1)))

-- what was read, and the cursor after it, are those that are meant; an out-of-memory error says nothing about the
-- meaning
abbrev pub Takes : {A M : Type 0} → (A → M) → Result A Error → TagTokenIter → Result (M × Tokens) Refusal → Type 0
Takes of (Ok x) cursor meant = (rest : Tokens) × (meant ≡ Ok (of x, rest)) × AreTokens cursor rest
Takes of (Err e) cursor meant = IfSome (told e) (λ r. meant ≡ Err r)

-- the value that a token is, by its kind: a chain without filters
pub record IsValue (place : List ℕ) (handed : Token) (kind : Kind) : Type 0 where
  pub value : Value
  pub rest : List ℕ
  pub match : ValueRule place rest value
  pub fine : value_fault value ≡ None
  pub is : handed.shape ≡ chain (expression_meant value) []
  pub kind_is : kind ≡ value_kind value
