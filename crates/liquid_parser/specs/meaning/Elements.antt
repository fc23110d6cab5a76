-- What the cursors over a source's elements mean.
use Rattle.std.specs.Prelude.{◌≡◌, ℕ, List, ◌∷◌, None, option_map}
use Rattle.liquid_grammar.specs.meaning.Bytes.{open_brace}
use Rattle.liquid_grammar.specs.meaning.Cover as cover
use Rattle.liquid_grammar.specs.meaning.Cover.{raw, tag_element, expression, invalid}
use Rattle.liquid_grammar.specs.meaning.Faults.{chain_fault}
use Rattle.liquid_grammar.specs.meaning.Kinds.{chain_kind, identifier_of}
use Rattle.liquid_grammar.specs.meaning.Tokens.{Chain, ChainRule}
use Rattle.liquid_parser.specs.declared.cursor.element.Exp.{Exp as ExpCursor}
use Rattle.liquid_parser.specs.declared.cursor.element.InvalidLiquidToken.{InvalidLiquidToken}
use Rattle.liquid_parser.specs.declared.cursor.element.BlockElement.{BlockElement}
use Rattle.liquid_parser.specs.declared.cursor.element.BlockElement.TheVariants.{Raw, Tag, Expression, Invalid}
use Rattle.liquid_parser.specs.meaning.WholeTag.{IsTag}

-- an expression of the source, with its name if it is one; its literals and brackets have no fault
pub record IsExpression (x : ExpCursor) (source : List ℕ) (chain : Chain) : Type 0 where
  pub source_is : x.source.now ≡ source
  pub match : ChainRule x.chain.now chain.following chain
  pub name_is : option_map (λ name. name.now) x.name ≡ identifier_of (chain_kind chain.what.0 chain.what.1)
  pub fine : chain_fault chain ≡ None

-- this holds of each source and of the expression that the cursor is there
abbrev pub IfExpression : ExpCursor → (List ℕ → Chain → Type 0) → Type 0
IfExpression x holds = (source : List ℕ) (chain : Chain) → IsExpression x source chain → holds source chain

-- what is neither a tag nor an expression, by its brace
pub record IsInvalid (x : InvalidLiquidToken) (source following : List ℕ) : Type 0 where
  pub source_is : x.source.now ≡ source
  pub brace_is : x.brace.now ≡ open_brace ∷ following

-- the cursor means this element of the source, which is followed by this text
abbrev pub StandsFor : BlockElement → (source following : List ℕ) → cover.Element → Type 0
StandsFor (Raw x) source following (raw text) = x.text.now ≡ text
StandsFor (Tag x) source following (tag_element tag text) = IsTag x source tag × (x.text.now ≡ text)
StandsFor (Expression x) source following (expression chain text) = IsExpression x source chain × (x.text.now ≡ text)
StandsFor (Invalid x) source following (invalid text) = IsInvalid x source following × (x.text.now ≡ text)
StandsFor _ source following _ = ⊥

-- this holds of each source, of the text that follows, and of the element that the cursor means there
abbrev pub IfElement : BlockElement → (List ℕ → List ℕ → cover.Element → Type 0) → Type 0
IfElement x holds = (source following : List ℕ) (e : cover.Element) → StandsFor x source following e → holds source following e
