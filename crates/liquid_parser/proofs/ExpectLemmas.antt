-- What a token is, by its parts.
use Rattle.std.proofs.Common.{◌≡◌, ◌⊎◌, inl, inr, ℕ, Bool, true, false, List, [], ◌∷◌, map, Option, Some, None, refl, sym, ap, ◌∙◌, subst}
use Rattle.std.specs.Prelude.{option_map, option_and_then}
use Rattle.std.specs.Borrow.{Bor}
use Rattle.std.proofs.lemmas.Option.{same_Some}
use Rattle.liquid_grammar.specs.declared.kind.TokenKind.{TokenKind}
use Rattle.liquid_grammar.specs.declared.kind.TokenKind.TheVariants as kind
use Rattle.liquid_grammar.specs.declared.literal.Literal.{Literal as CodeLiteral}
use Rattle.liquid_grammar.specs.declared.parts.TokenParts.{TokenParts}
use Rattle.liquid_grammar.specs.declared.parts.TokenParts.TheVariants as parts
use Rattle.liquid_grammar.specs.meaning.Faults.{token_fault}
use Rattle.liquid_grammar.specs.meaning.KindMeanings.{token_kind_of}
use Rattle.liquid_grammar.specs.meaning.Kinds.{
  Kind,
  range_kind,
  symbol_kind,
  filtered_kind,
  literal_kind,
  variable_kind,
  identifier_kind,
  value_kind,
  chain_kind,
  identifier_of,
}
use Rattle.liquid_grammar.specs.meaning.Literals.{Literal}
use Rattle.liquid_grammar.specs.meaning.Parts.{HasParts, IsChainToken}
use Rattle.liquid_grammar.specs.meaning.Tokens as token
use Rattle.liquid_grammar.specs.meaning.Values.{Value, literal_value, variable_value, no_index, more_indexes}
use Rattle.liquid_parser.specs.declared.cursor.token.TagToken.{TagToken}
use Rattle.liquid_parser.specs.meaning.Cursors.{IsToken, IsValue}
use Rattle.liquid_grammar.specs.meaning.Meanings.{literal_of}
use Rattle.liquid_scalar.specs.meaning.Scalar.{integer, boolean, text, date, date_time}
use Rattle.liquid_value.specs.meaning.Tree.{Tree}
use Rattle.liquid_plugins.specs.meaning.Expression.{ExpressionShape, literal, variable, no_indexes, index, as_literal}
use Rattle.liquid_parser.specs.meaning.Handed.{Token, chain, call_of, handed_token, expression_meant}
use Rattle.liquid_parser.specs.meaning.Handed.{literal_tree, value_of, as_identifier, expect_value, expect_literal}
use Rattle.liquid_parser.proofs.Indexes.{first_none}

pub is_value_kind : Kind → Bool
is_value_kind range_kind = false
is_value_kind symbol_kind = false
is_value_kind filtered_kind = false
is_value_kind (literal_kind l) = true
is_value_kind variable_kind = true
is_value_kind (identifier_kind n) = true

pub are_value_parts : TokenParts → Bool
are_value_parts (parts.Range start stop) = false
are_value_parts (parts.Chain k) = is_value_kind (token_kind_of k)
are_value_parts (parts.Symbol s) = false

values_are : (v : Value) → is_value_kind (value_kind v) ≡ true
unfolding is_value_kind
values_are (literal_value p b l) = refl
values_are (variable_value p b n no_index) = refl
values_are (variable_value p b n (more_indexes i is)) = refl

-- a chain of such a kind has no filters, and one of another kind is not a value
no_filters : (v : Value) (fs : List token.Filter) → is_value_kind (chain_kind v fs) ≡ true → fs ≡ []
unfolding is_value_kind
no_filters v [] e = refl
no_filters v (f ∷ fs) e = cc

no_value : (v : Value) (fs : List token.Filter) → is_value_kind (chain_kind v fs) ≡ false
    → value_of (chain (expression_meant v) (map call_of fs)) ≡ None
no_value v [] e = let both : true ≡ false = sym (values_are v) ∙ e in cc
no_value v (f ∷ fs) e = refl

pub has_parts : (t : TagToken) (handed : Token) (is : IsToken t handed) (p : TokenParts) → t.text.parts ≡ p
    → HasParts p t.text.place.now t.text.rest.now is.matched
has_parts t handed is p e = subst (λ x. HasParts x t.text.place.now t.text.rest.now is.matched) e is.parts

pub shape_of_parts : (t : TagToken) (handed : Token) (is : IsToken t handed) (matched : token.Token) → is.matched ≡ matched
    → handed.shape ≡ (handed_token t.source.now matched).shape
shape_of_parts t handed is matched e = ap (λ x. Token.shape x) is.is ∙ ap (λ x. Token.shape (handed_token t.source.now x)) e

pub chain_value : (t : TagToken) (handed : Token) (k : TokenKind) → IsToken t handed → t.text.parts ≡ parts.Chain k
    → is_value_kind (token_kind_of k) ≡ true → IsValue t.text.place.now handed (token_kind_of k)
chain_value t handed k is e fits =
    let h : IsChainToken (token_kind_of k) t.text.place.now t.text.rest.now is.matched = has_parts t handed is (parts.Chain k) e in
    let value : Value = h.chain_here.what.0 in
    let filters : List token.Filter = h.chain_here.what.1 in
    let none : filters ≡ [] = no_filters value filters (ap is_value_kind (sym h.kind_is) ∙ fits) in
    record {
      value = value;
      rest = h.match.match.middle;
      match = h.match.match.before;
      fine = first_none _ _ (ap token_fault (sym h.is) ∙ is.fine);
      is = shape_of_parts t handed is _ h.is ∙ ap (λ fs. chain (expression_meant value) (map call_of fs)) none;
      kind_is = h.kind_is ∙ ap (chain_kind value) none;
    }

pub other_value : (t : TagToken) (handed : Token) (p : TokenParts) → IsToken t handed → t.text.parts ≡ p → are_value_parts p ≡ false
    → expect_value handed ≡ None
unfolding are_value_parts
other_value t handed (parts.Range start stop) is e other =
    let h = has_parts t handed is (parts.Range start stop) e in
    ap value_of (shape_of_parts t handed is _ h.is)
other_value t handed (parts.Chain k) is e other =
    let h = has_parts t handed is (parts.Chain k) e in
    ap value_of (shape_of_parts t handed is _ h.is) ∙ no_value h.chain_here.what.0 h.chain_here.what.1
    (ap is_value_kind (sym h.kind_is) ∙ other)
other_value t handed (parts.Symbol s) is e other =
    let h = has_parts t handed is (parts.Symbol s) e in
    ap value_of (shape_of_parts t handed is _ h)

-- a value as an identifier and as a literal, by its kind
value_identifier : (v : Value) → as_identifier (expression_meant v) ≡ identifier_of (value_kind v)
value_identifier (literal_value p b l) = refl
value_identifier (variable_value p b n no_index) = refl
value_identifier (variable_value p b n (more_indexes i is)) = refl

pub literal_of_kind : Kind → Option Literal
literal_of_kind range_kind = None
literal_of_kind symbol_kind = None
literal_of_kind filtered_kind = None
literal_of_kind (literal_kind l) = Some l
literal_of_kind variable_kind = None
literal_of_kind (identifier_kind n) = None

value_literal : (v : Value) → as_literal (expression_meant v) ≡ option_map literal_tree (literal_of_kind (value_kind v))
unfolding literal_of_kind
value_literal (literal_value p b l) = refl
value_literal (variable_value p b n no_index) = refl
value_literal (variable_value p b n (more_indexes i is)) = refl

pub literal_expected : (place : List ℕ) (handed : Token) (k : Kind) → IsValue place handed k
    → expect_literal handed ≡ option_map literal_tree (literal_of_kind k)
literal_expected place handed k is =
    ap (λ s. option_and_then as_literal (value_of s)) is.is ∙ (value_literal is.value
    ∙ ap (λ x. option_map literal_tree (literal_of_kind x)) (sym is.kind_is))

pub literal_is : (place : List ℕ) (handed : Token) (l : Literal) → IsValue place handed (literal_kind l)
    → expect_literal handed ≡ Some (literal_tree l)
unfolding literal_of_kind
literal_is place handed l is = literal_expected place handed (literal_kind l) is

-- literals, variables and identifiers are values
pub values_of_kinds : (k : TokenKind) → ((l : CodeLiteral) × k ≡ kind.Literal l)
    ⊎ ((k ≡ kind.Variable) ⊎ ((name : Bor (List ℕ)) × k ≡ kind.Identifier name)) → is_value_kind (token_kind_of k) ≡ true
unfolding is_value_kind
values_of_kinds k (inl e) = ap (λ x. is_value_kind (token_kind_of x)) e.1
values_of_kinds k (inr (inl e)) = ap (λ x. is_value_kind (token_kind_of x)) e
values_of_kinds k (inr (inr e)) = ap (λ x. is_value_kind (token_kind_of x)) e.1

-- ---- a literal, and a name alone

literal_meant : (e : ExpressionShape) (t : Tree) → as_literal e ≡ Some t → e ≡ literal t
literal_meant (literal u) t h = ap literal (same_Some u t h)
literal_meant (variable name is) t h = absurd (cc)

name_meant : (e : ExpressionShape) (name : List ℕ) → as_identifier e ≡ Some name → e ≡ variable (text name) no_indexes
name_meant (literal t) name h = absurd (cc)
name_meant (variable (text bytes) no_indexes) name h = ap (λ n. variable (text n) no_indexes) (same_Some bytes name h)
name_meant (variable (text bytes) (index e es)) name h = absurd (cc)
name_meant (variable (integer n) is) name h = absurd (cc)
name_meant (variable (boolean b) is) name h = absurd (cc)
name_meant (variable (date d) is) name h = absurd (cc)
name_meant (variable (date_time d) is) name h = absurd (cc)

pub literal_shape : (t : TagToken) (handed : Token) (l : CodeLiteral) → IsToken t handed → t.text.parts ≡ parts.Chain (kind.Literal l)
    → handed.shape ≡ chain (literal (literal_tree (literal_of l))) []
unfolding literal_of_kind
literal_shape t handed l is e =
    let found = chain_value t handed (kind.Literal l) is e (values_of_kinds (kind.Literal l) (inl (l, refl))) in
    found.is ∙ ap (λ x. chain x []) (literal_meant _ _ (value_literal found.value
    ∙ ap (λ k. option_map literal_tree (literal_of_kind k)) (sym found.kind_is)))

pub name_shape : (t : TagToken) (handed : Token) (name : Bor (List ℕ)) → IsToken t handed
    → t.text.parts ≡ parts.Chain (kind.Identifier name) → handed.shape ≡ chain (variable (text name.now) no_indexes) []
name_shape t handed name is e =
    let found = chain_value t handed (kind.Identifier name) is e (values_of_kinds (kind.Identifier name) (inr (inr (name, refl)))) in
    found.is ∙ ap (λ x. chain x []) (name_meant _ _ (value_identifier found.value ∙ ap identifier_of (sym found.kind_is)))
