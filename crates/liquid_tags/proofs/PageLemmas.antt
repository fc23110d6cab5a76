-- A page in a language that means the library's language.
use Rattle.std.proofs.Common.{◌≡◌, ℕ, List, Result, subst}
use Rattle.liquid_error.specs.declared.error.Error.{Error}
use Rattle.liquid_runtime.specs.meaning.Maps.{Names}
use Rattle.liquid_plugins.specs.meaning.Chain.{FilterMeaning}
use Rattle.liquid_parser.specs.meaning.Lang.{Filters, Lang}
use Rattle.liquid_template.specs.meaning.Sunk.{Sunk}
use Rattle.liquid_partials.specs.meaning.Pages as page
use Rattle.liquid_partials.specs.meaning.Sources.{Texts}
use Rattle.liquid_tags.specs.declared.tags.TagShape.{TagShape}
use Rattle.liquid_tags.specs.declared.blocks.BlockShape.{BlockShape}
use Rattle.liquid_tags.specs.declared.block_plugins.PlanShape.{PlanShape}
use Rattle.liquid_tags.specs.meaning.Languages.{tags_and_blocks}
use Rattle.liquid_tags.specs.meaning.Library.{library}
use Rattle.liquid_tags.specs.meaning.Pages.{RendersPage}

pub page_in : {F : Type 0} (m : FilterMeaning F) (filters : Filters F) (l : Lang F (TagShape F) PlanShape BlockShape) (text : List ℕ)
    (globals : Names) (partials : Texts) (before after : Sunk) (result : Result (Unit {0}) Error)
    → l ≡ tags_and_blocks filters → page.RendersPage (tt {0}) (library (tt {0}) m) l text globals partials before after result
    → RendersPage m filters text globals partials before after result
page_in m filters l text globals partials before after result same renders =
    subst (λ k. page.RendersPage (tt {0}) (library (tt {0}) m) k text globals partials before after result) same renders
