-- What an element of the program means.
use Rattle.std.specs.Prelude.{◌≡◌, ◌++◌, List, ℕ}
use Rattle.liquid_grammar.specs.declared.element.TagText.{TagText}
use Rattle.liquid_grammar.specs.declared.element.ChainText.{ChainText}
use Rattle.liquid_grammar.specs.declared.element.Element.{Element as CodeElement}
use Rattle.liquid_grammar.specs.declared.element.Element.TheVariants.{Raw, Tag, Expression, Invalid}
use Rattle.liquid_grammar.specs.meaning.Tokens as shape
use Rattle.liquid_grammar.specs.meaning.Faults.{tag_fault, chain_fault}
use Rattle.liquid_grammar.specs.meaning.Kinds.{chain_kind}
use Rattle.liquid_grammar.specs.meaning.KindMeanings.{token_kind_of}
use Rattle.liquid_grammar.specs.meaning.Meanings.{faults_of}
use Rattle.liquid_grammar.specs.meaning.Cover.{Element, raw, tag_element, expression, invalid}

-- an element, and what it leaves of the text
abbrev pub Taken : Type 0
Taken = Element × List ℕ

-- where the tag's name begins, the name, where its tokens begin, its text and its first fault
pub record MeansTag (t : TagText) (tag : shape.Tag) (text : List ℕ) : Type 0 where
  pub place_is : t.place.now ≡ tag.0 ++ tag.1.place
  pub name_is : t.name.now ≡ tag.0
  pub tokens_are : t.tokens.now ≡ tag.1.place
  pub text_is : t.text.now ≡ text
  pub fault_is : faults_of t.fault ≡ tag_fault tag

-- where the chain begins, what it is, the expression's text and its first fault
pub record MeansChain (t : ChainText) (chain : shape.Chain) (text : List ℕ) : Type 0 where
  pub chain_is : t.chain.now ≡ chain.place
  pub kind_is : token_kind_of t.kind ≡ chain_kind chain.what.0 chain.what.1
  pub text_is : t.text.now ≡ text
  pub fault_is : faults_of t.fault ≡ chain_fault chain

-- the element of the program means this one
abbrev pub Means : CodeElement → Element → Type 0
Means (Raw t) (raw text) = t.now ≡ text
Means (Tag t) (tag_element tag text) = MeansTag t tag text
Means (Expression t) (expression chain text) = MeansChain t chain text
Means (Invalid t) (invalid text) = t.now ≡ text
Means _ _ = ⊥
