-- What the texts of a site come to in a language.
use Rattle.std.specs.Prelude.{◌≡◌, ℕ, List, [], Option, None, Some, Result, Ok, Err, IsUtf8, String}
use Rattle.std.specs.BTreeMap.{BTreeMap}
use Rattle.std.specs.declared.alloc.Global.{Global}
use Rattle.liquid_error.specs.declared.error.Error.{Error}
use Rattle.liquid_error.specs.meaning.Told.{told}
use Rattle.liquid_value.specs.declared.value.Value.{Value}
use Rattle.liquid_value.specs.meaning.Tree.{Members}
use Rattle.liquid_value.specs.meaning.View.{members_view}
use Rattle.liquid_runtime.specs.meaning.Maps.{names_of}
use Rattle.liquid_parser.specs.meaning.Lang.{Lang}
use Rattle.liquid_template.specs.meaning.Sunk.{Sunk}
use Rattle.liquid_partials.specs.meaning.Each.{each}
use Rattle.liquid_partials.specs.meaning.Sources.{Texts}
use Rattle.liquid_pages.specs.declared.options.PageOptions.{PageOptions}
use Rattle.liquid_pages.specs.meaning.Pages.{Renders, Settings}

-- what is written comes to the page, or to none: there is an error that is not out of memory, or it is not UTF-8
abbrev pub ComesTo : Option (List ℕ) → List ℕ → Result (Unit {0}) Error → Type 0
ComesTo (Some page) written (Ok _) = written ≡ page
ComesTo (Some page) written (Err error) = ⊥
ComesTo None written (Ok _) = ¬ (IsUtf8 written)
ComesTo None written (Err error) = ¬ (told error ≡ None)

module _ {Reg F T P L B Q : Type 0} (rewritten : List ℕ → List ℕ) (s : Settings Reg F T P B Q) (l : Lang F T L B) (options : PageOptions)
    (partials : Texts) where
  -- a text was rendered over these names into an empty sink, and comes to the page. It and the partials are read rewritten
  pub record Answered (text : List ℕ) (names : Members) (page : Option (List ℕ)) : Type 0 where
    pub globals : BTreeMap (String Global) Value
    pub names_are : members_view globals.entries ≡ names
    pub before : Sunk
    pub after : Sunk
    pub result : Result (Unit {0}) Error
    pub is_empty : before.taken ≡ []
    pub renders : Renders s l options (rewritten text) (names_of globals) (Some (each rewritten partials)) before after result
    pub comes : ComesTo page after.taken result
