-- Memory that runs out before anything is written is an outcome of each rendering.
use Rattle.std.proofs.Common.{◌≡◌, ℕ, Bool, true, false, List, Option, None, Err}
use Rattle.liquid_error.specs.declared.error.Error.{Error}
use Rattle.liquid_error.specs.meaning.Told.{told}
use Rattle.liquid_runtime.specs.meaning.Maps.{Names}
use Rattle.liquid_template.specs.meaning.Sunk.{Sunk}
use Rattle.liquid_partials.specs.meaning.Sources.{Texts}
use Rattle.liquid_pages.specs.declared.options.PageOptions.{PageOptions}
use Rattle.liquid_pages.proofs.PageLemmas.{nothing_rendered as no_page}
use Rattle.liquid_program.specs.declared.command.Options.{Options}
use Rattle.liquid_program.specs.meaning.Program.{Renders, RendersIn, page_options}
use Rattle.liquid_program.specs.meaning.ProgramLanguage.{plain_language, plain_setting, standard_language, standard_setting}

pub nothing_in : (standard : Bool) (page : PageOptions) (text : List ℕ) (globals : Names) (partials : Option Texts) (at : Sunk)
    (error : Error) → told error ≡ None → RendersIn standard page text globals partials at at (Err error)
nothing_in false page text globals partials at error memory =
    λ answer reads. no_page plain_setting plain_language page answer globals partials at error memory
nothing_in true page text globals partials at error memory =
    λ answer reads. no_page standard_setting standard_language page answer globals partials at error memory

pub nothing_rendered : (options : Options) (text : List ℕ) (globals : Names) (partials : Option Texts) (at : Sunk) (error : Error)
    → told error ≡ None → Renders options text globals partials at at (Err error)
nothing_rendered options text globals partials at error memory =
    nothing_in options.standard (page_options options) text globals partials at error memory
