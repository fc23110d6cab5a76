-- What the program does, by its words, the files that they name and the sink that it writes to.
use Rattle.std.specs.Prelude.{◌≡◌, ℕ, Bool, true, false, ◌⊎◌, List, [], Option, None, Some, Result, Ok, Err, nat_eq, if◌then◌else◌}
use Rattle.std.specs.Io.KnownBytes.{Appends}
use Rattle.liquid_error.specs.declared.error.Error.{Error}
use Rattle.liquid_runtime.specs.meaning.Leniency.{lenient_paths}
use Rattle.liquid_runtime.specs.meaning.Maps.{Names}
use Rattle.liquid_template.specs.meaning.Sunk.{Sunk, sunk}
use Rattle.liquid_partials.specs.meaning.Sources.{Texts}
use Rattle.liquid_pages.specs.declared.options.PageFrame.{PageFrame}
use Rattle.liquid_pages.specs.declared.options.PageFrame.TheVariants.{Open, Sandboxed, Isolated}
use Rattle.liquid_pages.specs.declared.options.PageOptions.{PageOptions}
use Rattle.liquid_pages.specs.meaning.Pages.{Renders as RendersPage}
use Rattle.liquid_program.specs.meaning.ProgramLanguage.{plain_language, plain_setting, standard_language, standard_setting}
use Rattle.liquid_program.specs.declared.command.Options.{Options}
use Rattle.liquid_program.specs.meaning.Gathered.{Gathers, WithText}
use Rattle.liquid_program.specs.meaning.Status.{settled}

-- where the globals of a page are. With the standard tags a template sees what it assigns, also where it may not change
-- its globals
abbrev pub page_frame : Bool → Bool → PageFrame
page_frame standard false = Open
page_frame false true = Sandboxed
page_frame true true = Isolated

-- 0 means no limit
abbrev pub limit_of : Option ℕ → Option ℕ
limit_of None = None
limit_of (Some number) = if nat_eq number 0 then None else Some number

-- the options of the page
abbrev pub page_options : Options → PageOptions
page_options options = record {
  frame = page_frame options.standard options.sandboxed;
  decimals = options.decimals;
  leniency = lenient_paths options.lenient;
  max_turns = limit_of options.max_turns;
  max_bytes = limit_of options.max_bytes;
}

-- the text, parsed in the standard language or in the other one, was rendered as a page, with these options, over these
-- globals and these partials
abbrev pub RendersIn : Bool → PageOptions → List ℕ → Names → Option Texts → Sunk → Sunk → Result (Unit {0}) Error → Type 0
RendersIn false options text globals partials before after result =
    RendersPage plain_setting plain_language options text globals partials before after result
RendersIn true options text globals partials before after result =
    RendersPage standard_setting standard_language options text globals partials before after result

abbrev pub Renders : Options → List ℕ → Names → Option Texts → Sunk → Sunk → Result (Unit {0}) Error → Type 0
Renders options text globals partials before after result =
    RendersIn options.standard (page_options options) text globals partials before after result

-- 0 if the template was rendered, 1 if it was refused
abbrev pub status_of : Result (Unit {0}) Error → ℕ
status_of (Ok _) = 0
status_of (Err error) = 1

-- the text was rendered, and the status says how that ended
pub record Finishes (options : Options) (text : List ℕ) (globals : Names) (partials : Option Texts) (before after : Sunk)
    (status : ℕ) : Type 0 where
  pub result : Result (Unit {0}) Error
  pub renders : Renders options text globals partials before after result
  pub status_is : status ≡ status_of result

-- nothing was written: a file can't be read as what it should be, or memory ran out
abbrev pub Fails : Sunk → Sunk → ℕ → Type 0
Fails before after status = (after ≡ before) × ((status ≡ 3) ⊎ (status ≡ 1))

-- the files at these paths are read, and the template is rendered over the globals
abbrev pub Executes : Options → Option (List ℕ) → List (List ℕ) → (List ℕ → Option (Option (List ℕ)))
    → (Bool → List ℕ → Option (Option (List (List ℕ)))) → Sunk → Sunk → ℕ → Type 0
Executes options ending paths known listed before after status =
    Gathers options.decimals paths ending known listed (Fails before after status)
    (λ text globals partials. Finishes options text globals partials before after status)

-- the template at a path is read and rendered, over globals and partials that were read before
abbrev pub ExecutesOne : Options → List ℕ → Names → Option Texts → (List ℕ → Option (Option (List ℕ))) → Sunk → Sunk → ℕ → Type 0
ExecutesOne options template globals partials known before after status =
    WithText (known template) (Fails before after status) (λ text. Finishes options text globals partials before after status)

-- the content of an output grew by what a fresh sink over it takes when this is done; then the output was flushed
pub record Printed (Done : Sunk → Sunk → ℕ → Type 0) (before after : Option (List ℕ)) (status : ℕ) : Type 0 where
  pub taken : List ℕ
  pub failures : ℕ
  pub destination : Option (List ℕ)
  pub lent : List ℕ
  pub answered : ℕ
  pub flushed : Bool
  pub appended : Appends before after taken
  pub done : Done (sunk [] 0 before lent) (sunk taken failures destination lent) answered
  pub status_is : status ≡ settled answered flushed
