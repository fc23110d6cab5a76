-- The result of a page of the standard language.
use Rattle.std.specs.Prelude.{List, ℕ, Result}
use Rattle.liquid_error.specs.declared.error.Error.{Error}
use Rattle.liquid_runtime.specs.meaning.Maps.{Names}
use Rattle.liquid_plugins.specs.meaning.Chain.{FilterMeaning}
use Rattle.liquid_parser.specs.meaning.Lang.{Filters}
use Rattle.liquid_template.specs.meaning.Sunk.{Sunk}
use Rattle.liquid_partials.specs.meaning.Pages as page
use Rattle.liquid_partials.specs.meaning.Sources.{Texts}
use Rattle.liquid_std.specs.meaning.marks.Held.{marks_alone}
use Rattle.liquid_std.specs.meaning.marks.Marks.{no_marks}
use Rattle.liquid_std.specs.meaning.Languages.{tags_and_blocks}
use Rattle.liquid_std.specs.meaning.Standard.{standard}

-- a text is rendered as a page of the standard language with these filters
abbrev pub RendersPage : {F : Type 0} → FilterMeaning F → Filters F → List ℕ → Names → Texts → Sunk → Sunk → Result (Unit {0}) Error
    → Type 0
RendersPage m filters = page.RendersPage no_marks (standard marks_alone no_marks m) (tags_and_blocks filters)
