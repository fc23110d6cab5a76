-- The elements of a text.
use Rattle.std.specs.Prelude.{◌≡◌, ℕ, ◌<◌, List, [], ◌∷◌, ◌++◌, length, drop}
use Rattle.liquid_grammar.specs.meaning.Rules.{Begins}
use Rattle.liquid_grammar.specs.meaning.Grammar.{Opens, LoneBrace}
use Rattle.liquid_grammar.specs.meaning.Tokens.{Chain, Tag, ExpressionRule, TagRule}

-- an element, with its shape and the text that it takes
pub data Element : Type 0 where
  raw : List ℕ → Element
  tag_element : Tag → (text : List ℕ) → Element
  expression : Chain → (text : List ℕ) → Element
  invalid : List ℕ → Element

abbrev pub text_of : Element → List ℕ
text_of (raw text) = text
text_of (tag_element tag text) = text
text_of (expression chain text) = text
text_of (invalid text) = text

-- some text in which no opener begins, up to the place where one does or to the end
pub record Raw (s rest text : List ℕ) : Type 0 where
  pub some : 0 < length text
  pub closed : (k : ℕ) → k < length text → ¬ (Opens (drop k s))
  pub stops : 0 < length rest → Opens rest

-- an expression, if no tag begins here
pub record Expression (s rest : List ℕ) (chain : Chain) : Type 0 where
  pub no_tag : ¬ (Begins TagRule s)
  pub match : ExpressionRule s rest chain

-- an opener that begins neither a tag nor an expression: its whitespace and one `{`
pub record Invalid (s rest text : List ℕ) : Type 0 where
  pub opens : Opens s
  pub no_tag : ¬ (Begins TagRule s)
  pub no_expression : ¬ (Begins ExpressionRule s)
  pub brace : LoneBrace s rest text

-- s begins with an element of this kind and shape
abbrev pub IsKind : List ℕ → List ℕ → Element → Type 0
IsKind s rest (raw text) = Raw s rest text
IsKind s rest (tag_element tag text) = TagRule s rest tag
IsKind s rest (expression chain text) = Expression s rest chain
IsKind s rest (invalid text) = Invalid s rest text

-- the element is the beginning of s, and leaves rest
pub record IsElement (s rest : List ℕ) (e : Element) : Type 0 where
  pub joined : s ≡ text_of e ++ rest
  pub kind : IsKind s rest e

-- the elements of a whole text, from left to right
pub data Cover : List ℕ → List Element → Type 0 where
  done : Cover [] []
  next : {s rest : List ℕ} {e : Element} {es : List Element} → IsElement s rest e → Cover rest es → Cover s (e ∷ es)

-- these elements cover the text, and no others do
pub record OnlyCover (s : List ℕ) : Type 0 where
  pub elements : List Element
  pub cover : Cover s elements
  pub only : (others : List Element) → Cover s others → others ≡ elements

-- the texts of the elements, joined
abbrev pub joined : List Element → List ℕ
joined [] = []
joined (e ∷ es) = text_of e ++ joined es
