-- What stores that keep their results find, keep and parse. `of` gives the nodes of a template, `language` what a language means,
-- and `sources` the texts of a source.
use Rattle.std.specs.Prelude.{ℕ, List, Bool, String, Result}
use Rattle.std.specs.BTreeMap.{BTreeMap}
use Rattle.std.specs.declared.alloc.Global.{Global}
use Rattle.liquid_error.specs.declared.error.Error.{Error}
use Rattle.liquid_parser.specs.declared.plugin.language.Language.{Language}
use Rattle.liquid_parser.specs.meaning.Lang.{Lang}
use Rattle.liquid_plugins.specs.meaning.Nodes.{Nodes}
use Rattle.liquid_template.specs.meaning.Partials.{Found}
use Rattle.liquid_partials.specs.declared.texts.Texts.{Texts as TextsOf}
use Rattle.liquid_partials.specs.meaning.Compiled.{once}
use Rattle.liquid_partials.specs.meaning.Keeping.{is_read, kept_after}
use Rattle.liquid_partials.specs.meaning.Kept.{all_kept, kept_or_read}
use Rattle.liquid_partials.specs.meaning.Sources.{Texts}

module _ {A S U V W F T P B : Type 0} (of : A → Nodes F T B) (language : Language U V W → Lang F T P B) (sources : S → Texts)
    (texts : TextsOf S U V W) (kept : BTreeMap (String Global) (Result A Error)) where
  -- what it finds, with these results kept
  abbrev pub finds_in : Found F T B
  finds_in = kept_or_read of (language texts.parser.language.value) kept (sources texts.source)

  -- what it keeps after a request for a name, which had a result, or was out of memory
  abbrev pub kept_next : Bool → List ℕ → Found F T B
  kept_next answered name = kept_after answered finds_in name (all_kept of kept)

  -- the number of texts that a request for a name parses
  abbrev pub parsed_for : List ℕ → ℕ
  parsed_for name = once (is_read finds_in (all_kept of kept) name)
