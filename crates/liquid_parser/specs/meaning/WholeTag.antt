-- A tag alone, and the result of the call that makes one.
use Rattle.std.specs.Prelude.{◌≡◌, ℕ, List, [], None, Result, Ok, Err, IfSome}
use Rattle.liquid_error.specs.declared.error.Error.{Error}
use Rattle.liquid_error.specs.meaning.Refusal.{Refusal}
use Rattle.liquid_error.specs.meaning.Told.{told}
use Rattle.liquid_grammar.specs.meaning.Faults.{tag_fault}
use Rattle.liquid_grammar.specs.meaning.Tokens as token
use Rattle.liquid_grammar.specs.meaning.Tokens.{TagRule}
use Rattle.liquid_parser.specs.declared.cursor.tag.Tag.{Tag}
use Rattle.liquid_parser.specs.meaning.Handed.{handed}
use Rattle.liquid_parser.specs.meaning.Plugins.{AreTokens}
use Rattle.liquid_parser.specs.meaning.Reading.{checked, name_place}

-- the whole text is a tag
pub record WholeTag (s : List ℕ) : Type 0 where
  pub tag : token.Tag
  pub match : TagRule s [] tag

-- a tag of the source; its literals and brackets have no fault
pub record IsTag (tag : Tag) (source : List ℕ) (t : token.Tag) : Type 0 where
  pub name_is : tag.name.now ≡ t.0
  pub from_is : tag.from.now ≡ name_place t
  pub source_is : tag.tokens.source.now ≡ source
  pub tokens_are : AreTokens tag.tokens (handed source t)
  pub fine : tag_fault t ≡ None

-- this holds of each source and of the tag that the cursor is there
abbrev pub IfTag : Tag → (List ℕ → token.Tag → Type 0) → Type 0
IfTag tag holds = (source : List ℕ) (t : token.Tag) → IsTag tag source t → holds source t

-- the tag that the source is, unless one of its literals or brackets has a fault; an out-of-memory error says nothing
abbrev pub GivesTag : Result Tag Error → List ℕ → token.Tag → Type 0
GivesTag (Ok tag) source t = (checked source (tag_fault t) ≡ Ok tt) × IsTag tag source t × (tag.text.now ≡ source)
GivesTag (Err e) source t = IfSome (told e) (λ r. checked source (tag_fault t) ≡ Err r)

-- only this refusal; an out-of-memory error says nothing
abbrev pub Refuses : {A : Type 0} → Result A Error → Refusal → Type 0
Refuses (Ok x) refusal = ⊥
Refuses (Err e) refusal = IfSome (told e) (λ r. r ≡ refusal)
