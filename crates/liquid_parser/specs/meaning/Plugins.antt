-- What the tokens, bodies and plug-ins of the program mean to the reading.
use Rattle.std.specs.Prelude.{◌≡◌, None, option_map, Result}
use Rattle.std.specs.FinMap.{get, keys}
use Rattle.liquid_error.specs.meaning.Refusal.{Refusal}
use Rattle.liquid_grammar.specs.meaning.Rules.{Repeated, ◌▷◌}
use Rattle.liquid_grammar.specs.meaning.Grammar.{White}
use Rattle.liquid_grammar.specs.meaning.Faults.{tag_fault}
use Rattle.liquid_grammar.specs.meaning.Tokens as token
use Rattle.liquid_grammar.specs.meaning.Tokens.{TokenRule}
use Rattle.liquid_runtime.specs.meaning.Maps.{NameMap}
use Rattle.liquid_plugins.specs.meaning.ArgumentsOf.{Arguments}
use Rattle.liquid_parser.specs.declared.cursor.tokens.TagTokenIter.{TagTokenIter}
use Rattle.liquid_parser.specs.declared.plugin.block.BlockBody.{BlockBody}
use Rattle.liquid_parser.specs.declared.plugin.block.BlockBody.TheVariants.{Parts, Escaped}
use Rattle.liquid_parser.specs.declared.plugin.language.Language.{Language}
use Rattle.liquid_parser.specs.meaning.Handed.{Tokens, handed}
use Rattle.liquid_parser.specs.meaning.Lang.{Registry, Filters, Lang, Block, Body, parts, escaped}

-- the tokens of a tag of the source, which begin at the cursor; their literals and brackets have no fault
pub record AreTokens (t : TagTokenIter) (ts : Tokens) : Type 0 where
  pub tag : token.Tag
  pub begins : tag.1.place ≡ t.rest.now
  pub match : Repeated (White ▷ TokenRule) tag.1.place tag.1.following tag.1.what
  pub fine : tag_fault tag ≡ None
  pub is : ts ≡ handed t.source.now tag

-- plug-ins by what each of them means
abbrev pub registry_of : {A P : Type 0} → (P → A) → NameMap P → Registry A
registry_of of plugins = record { get = λ name. option_map of (get plugins name); names = keys plugins }

-- a language by what its plug-ins mean
abbrev pub language_of : {U V W F T P B : Type 0}
    → (U → Arguments → Result F Refusal) → (V → Filters F → Tokens → Result T Refusal) → (W → Block F P B)
    → Language U V W → Lang F T P B
language_of makes gives block l =
    record { filters = registry_of makes l.filters; tags = registry_of gives l.tags; blocks = registry_of block l.blocks }

-- what a block is given at its end
abbrev pub body_of : BlockBody → Body
body_of (Parts n) = parts n
body_of (Escaped t) = escaped t.now
