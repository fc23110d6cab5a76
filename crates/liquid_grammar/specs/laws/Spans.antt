-- The spans of a shape: where its parts begin and end.
use Rattle.std.specs.Prelude.{◌≡◌, ℕ, ◌+◌, List, [], ◌∷◌, ◌++◌, length, ⊤}
use Rattle.std.specs.Str.{IsCharBoundary}
use Rattle.liquid_grammar.specs.meaning.Values.{
  Value,
  literal_value,
  variable_value,
  Index,
  named_index,
  bracketed_index,
  Indexes,
  no_index,
  more_indexes,
}
use Rattle.liquid_grammar.specs.meaning.Tokens.{Argument, positional, keyword, Filter, Chain, Token, range, chain, symbol, Tag}

-- a place, and the place where the part that begins there ends
abbrev pub Span : Type 0
Span = List ℕ × List ℕ

-- the spans of all parts of a list
abbrev pub spans_of_all : {A : Type 0} → (A → List Span) → List A → List Span
spans_of_all f [] = []
spans_of_all f (x ∷ xs) = f x ++ spans_of_all f xs

abbrev mutual
  pub value_spans : Value → List Span
  value_spans (literal_value place following literal) = (place, following) ∷ []
  value_spans (variable_value place following name indexes) = (place, following) ∷ indexes_spans indexes

  pub index_spans : Index → List Span
  index_spans (named_index name) = []
  index_spans (bracketed_index place following value) = (place, following) ∷ value_spans value

  pub indexes_spans : Indexes → List Span
  indexes_spans no_index = []
  indexes_spans (more_indexes index indexes) = index_spans index ++ indexes_spans indexes

abbrev pub argument_spans : Argument → List Span
argument_spans (positional value) = value_spans value
argument_spans (keyword name value) = value_spans value

abbrev pub filter_spans : Filter → List Span
filter_spans f = (f.place, f.following) ∷ spans_of_all argument_spans f.what.1

abbrev pub chain_spans : Chain → List Span
chain_spans c = (c.place, c.following) ∷ value_spans c.what.0 ++ spans_of_all filter_spans c.what.1

abbrev pub token_spans : Token → List Span
token_spans (range r) = (r.place, r.following) ∷ value_spans r.what.0 ++ value_spans r.what.1
token_spans (chain c) = chain_spans c
token_spans (symbol s) = (s.place, s.following) ∷ []

abbrev pub tag_spans : Tag → List Span
tag_spans tag = (tag.1.place, tag.1.following) ∷ spans_of_all token_spans tag.1.what

-- the span is a slice of the text, and begins and ends between characters
pub record IsSlice (s : List ℕ) (span : Span) : Type 0 where
  pub before : List ℕ
  pub taken : List ℕ
  pub joined : s ≡ before ++ taken ++ span.1
  pub place : span.0 ≡ taken ++ span.1
  pub begins : IsCharBoundary s (length before)
  pub ends : IsCharBoundary s (length before + length taken)

abbrev pub AreSlices : List ℕ → List Span → Type 0
AreSlices s [] = ⊤
AreSlices s (span ∷ spans) = IsSlice s span × AreSlices s spans
