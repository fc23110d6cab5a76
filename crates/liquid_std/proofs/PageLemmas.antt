-- A page in a language that means the standard language.
use Rattle.std.proofs.Common.{◌≡◌, ℕ, List, Result, subst}
use Rattle.liquid_error.specs.declared.error.Error.{Error}
use Rattle.liquid_runtime.specs.meaning.Maps.{Names}
use Rattle.liquid_plugins.specs.meaning.Chain.{FilterMeaning}
use Rattle.liquid_parser.specs.meaning.Lang.{Filters, Lang}
use Rattle.liquid_template.specs.meaning.Sunk.{Sunk}
use Rattle.liquid_partials.specs.meaning.Pages as page
use Rattle.liquid_partials.specs.meaning.Sources.{Texts}
use Rattle.liquid_std.specs.meaning.marks.Held.{marks_alone}
use Rattle.liquid_std.specs.meaning.marks.Marks.{no_marks}
use Rattle.liquid_std.specs.declared.tags.StdTagShape.{StdTagShape}
use Rattle.liquid_std.specs.declared.blocks.StdBlockShape.{StdBlockShape}
use Rattle.liquid_std.specs.declared.block_plugins.StdPlanShape.{StdPlanShape}
use Rattle.liquid_std.specs.meaning.Languages.{tags_and_blocks}
use Rattle.liquid_std.specs.meaning.Standard.{standard}
use Rattle.liquid_std.specs.meaning.Pages.{RendersPage}

pub page_in : {F : Type 0} (m : FilterMeaning F) (filters : Filters F) (l : Lang F (StdTagShape F) StdPlanShape StdBlockShape)
    (text : List ℕ) (globals : Names) (partials : Texts) (before after : Sunk) (result : Result (Unit {0}) Error)
    → l ≡ tags_and_blocks filters → page.RendersPage no_marks (standard marks_alone no_marks m) l text globals partials before after result
    → RendersPage m filters text globals partials before after result
page_in m filters l text globals partials before after result same renders =
    subst (λ k. page.RendersPage no_marks (standard marks_alone no_marks m) k text globals partials before after result) same renders
