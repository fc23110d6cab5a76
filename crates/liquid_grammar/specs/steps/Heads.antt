-- How a value begins: with a literal, or with a name. No public clause cites these definitions.
use Rattle.std.specs.Prelude.{◌≡◌, ℕ, true, false, List, Option, Some, None}
use Rattle.std.specs.Borrow.{Bor}
use Rattle.liquid_grammar.specs.declared.head.Head.{Head}
use Rattle.liquid_grammar.specs.declared.head.Head.TheVariants as head
use Rattle.liquid_grammar.specs.meaning.Rules.{Byte, ◌▷◌}
use Rattle.liquid_grammar.specs.meaning.Grammar.{White, is_literal_word}
use Rattle.liquid_grammar.specs.meaning.Parts.{HasHead}
use Rattle.liquid_grammar.specs.meaning.Literals.{Literal, word_literal}
use Rattle.liquid_grammar.specs.meaning.Meanings.{literal_of}
use Rattle.liquid_grammar.specs.meaning.Bytes.{colon}

abbrev literal_at : Head → List ℕ → Option (Literal × List ℕ)
literal_at (head.Literal literal) rest = Some (literal_of literal, rest)
literal_at (head.Name name) rest = None

abbrev name_at : Head → List ℕ → Option (List ℕ × List ℕ)
name_at (head.Literal literal) rest = None
name_at (head.Name name) rest = Some (name.now, rest)

-- the literal that was found, and what follows it
abbrev pub literal_in : Head × Bor (List ℕ) → Option (Literal × List ℕ)
literal_in p = literal_at p.0 p.1.now

-- the name that was found, and what follows it
abbrev pub name_in : Head × Bor (List ℕ) → Option (List ℕ × List ℕ)
name_in p = name_at p.0 p.1.now

-- a word is a literal if it is a literal word, and otherwise a name
abbrev pub IsHeadOf : List ℕ → Head → Type 0
IsHeadOf word (head.Literal literal) = (is_literal_word word ≡ true) × (literal_of literal ≡ word_literal word)
IsHeadOf word (head.Name name) = (is_literal_word word ≡ false) × (name.now ≡ word)

-- a colon between whitespace is here, and the value after it begins in this way
pub record HasColon (s : List ℕ) (h : Head) (after : List ℕ) : Type 0 where
  pub place : List ℕ
  pub white : List ℕ
  pub colon : (White ▷ Byte colon ▷ White) s place white
  pub head : HasHead place h after
