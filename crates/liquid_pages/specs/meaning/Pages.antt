-- The result of rendering a page: a text in a language, over globals, with or without partials.
use Rattle.std.specs.Prelude.{◌≡◌, ℕ, Bool, List, Option, None, Some, Result, Ok, option_map}
use Rattle.std.specs.FinMap.{empty}
use Rattle.liquid_error.specs.declared.error.Error.{Error}
use Rattle.liquid_error.specs.meaning.Refusal.{Refusal}
use Rattle.liquid_runtime.specs.declared.leniency.Leniency.{Leniency}
use Rattle.liquid_runtime.specs.meaning.Maps.{Names}
use Rattle.liquid_runtime.specs.meaning.Frames.{built_view, leniently}
use Rattle.liquid_runtime.specs.meaning.View.{View}
use Rattle.liquid_plugins.specs.meaning.Nodes.{NodeShape, nodes_from}
use Rattle.liquid_plugins.specs.meaning.NodesOf.{shapes_of}
use Rattle.liquid_parser.specs.meaning.Lang.{Lang}
use Rattle.liquid_parser.specs.meaning.Reading.{Reads}
use Rattle.liquid_template.specs.declared.template.Template.{Template}
use Rattle.liquid_template.specs.meaning.Nodes.{Setting}
use Rattle.liquid_template.specs.meaning.OfTypes.{FilterType, NodeType}
use Rattle.liquid_template.specs.meaning.Partials.{Found}
use Rattle.liquid_template.specs.meaning.Sunk.{Sunk}
use Rattle.liquid_template.specs.meaning.Rendering.{isolated_run, sandboxed_run, template_run}
use Rattle.liquid_template.specs.meaning.Run.{Action}
use Rattle.liquid_template.specs.meaning.Runs.{setting}
use Rattle.liquid_template.specs.meaning.TemplateOf.{own_nodes}
use Rattle.liquid_partials.specs.meaning.Compiled.{Compiled}
use Rattle.liquid_partials.specs.meaning.Rendered.{RenderedBy}
use Rattle.liquid_partials.specs.meaning.Sources.{Texts}
use Rattle.liquid_pages.specs.declared.options.PageFrame.{PageFrame}
use Rattle.liquid_pages.specs.declared.options.PageFrame.TheVariants.{Open, Sandboxed, Isolated}
use Rattle.liquid_pages.specs.declared.options.PageOptions.{PageOptions}
use Rattle.liquid_pages.specs.meaning.Limited.{limited, room_of}

-- the view of a built runtime of this leniency with these globals, whose register has its first value
abbrev pub built_over : {Reg : Type 0} → Reg → Leniency → Names → View Reg
built_over fresh leniency globals = leniently leniency (built_view fresh 32 globals)

-- the globals that the runtime has: in a sandbox, and in isolation, it has none
abbrev pub runtime_names : PageFrame → Names → Names
runtime_names Open globals = globals
runtime_names Sandboxed globals = empty
runtime_names Isolated globals = empty

-- the view that rendering with these options begins with
abbrev pub first_view : {Reg : Type 0} → Reg → PageOptions → Names → View Reg
first_view fresh options globals = built_over fresh options.leniency (runtime_names options.frame globals)

-- the nodes in a template, from the shapes of what plug-ins made
abbrev pub nodes_in : {X N K F T B : Type 0} → (X → F) → (N → T) → (K → B) → Template X N K → List (NodeShape F T B)
nodes_in filter tag block template = shapes_of filter tag block (own_nodes template)

-- what a text is read as
abbrev pub PageAnswer : Type 0 → Type 0 → Type 0 → Type 0
PageAnswer F T B = Result (List (NodeShape F T B)) Refusal

-- a store of these texts finds the results of parsing them; without texts there is no store
abbrev pub IsFoundIn : {F T L B : Type 0} → Lang F T L B → Option Texts → Option (Found F T B) → Type 0
IsFoundIn l None found = found ≡ None
IsFoundIn l (Some texts) None = ⊥
IsFoundIn l (Some texts) (Some found) = Compiled l texts found

-- what templates are rendered with, by what a store finds
abbrev pub Settings : Type 0 → Type 0 → Type 0 → Type 0 → Type 0 → Type 0 → Type 0
Settings Reg F T P B Q = Option (Found F T B) → Setting Reg F T P B Q

-- the first value of the register, whatever a store finds
abbrev pub first_register : {Reg F T P B Q : Type 0} → Settings Reg F T P B Q → Reg
first_register s = (s None).fresh

-- the rendering of nodes: in a sandbox and in isolation, under a frame without a name whose data are the globals
abbrev pub nodes_action : {Reg F T P B Q : Type 0} → Settings Reg F T P B Q → PageFrame → Option (Found F T B) → Names
    → List (NodeShape F T B) → Action Reg
nodes_action s Open found globals nodes = template_run (s found) (nodes_from nodes)
nodes_action s Sandboxed found globals nodes = sandboxed_run (s found) globals None (nodes_from nodes)
nodes_action s Isolated found globals nodes = isolated_run (s found) globals None (nodes_from nodes)

-- the same under the limits of the options
abbrev pub page_action : {Reg F T P B Q : Type 0} → Settings Reg F T P B Q → PageOptions → Option (Found F T B) → Names
    → List (NodeShape F T B) → Action Reg
page_action s options found globals nodes = limited (room_of options) (nodes_action s options.frame found globals nodes)

module _ {Reg F T P L B Q : Type 0} (s : Settings Reg F T P B Q) (l : Lang F T L B) (options : PageOptions) where
  -- the parsed text was rendered, with these options, over a built runtime with these globals and a store of these
  -- partials, which left a view
  pub record RendersAnswer (answer : PageAnswer F T B) (globals : Names) (partials : Option Texts) (before after : Sunk)
      (result : Result (Unit {0}) Error) : Type 0 where
    pub left : View Reg
    pub rendered : (found : Option (Found F T B)) → IsFoundIn l partials found
        → RenderedBy (page_action s options found globals) answer (first_view (first_register s) options globals) before after left result

  -- the same for what a text is read as in the language
  abbrev pub Renders : List ℕ → Names → Option Texts → Sunk → Sunk → Result (Unit {0}) Error → Type 0
  Renders text globals partials before after result =
      (answer : PageAnswer F T B) → Reads l text answer → RendersAnswer answer globals partials before after result

module _ {X N K Reg F T P B Q : Type 0} (fresh : Reg) (filter : FilterType X F) (tag : NodeType N T P Reg)
    (block : NodeType K B Q Reg) where
  -- a template of these types was rendered in the same way
  abbrev pub RendersTemplate : {L : Type 0} → Lang F T L B → PageOptions → Template X N K → Names → Option Texts → Sunk → Sunk
      → Result (Unit {0}) Error → Type 0
  RendersTemplate l options template globals partials before after result =
      RendersAnswer (setting fresh filter.means tag.means block.means) l options
      (Ok (nodes_in filter.shape tag.shape block.shape template)) globals partials before after result

  -- it was rendered over a store, whatever the language is, and the partials that the store finds; `L` is what blocks plan
  abbrev pub RendersOver : {S : Type 0} → (L : Type 0) → (S → Found F T B) → PageOptions → Template X N K → Names → Option S
      → Sunk → Sunk → Result (Unit {0}) Error → Type 0
  RendersOver L finds options template globals store before after result =
      (l : Lang F T L B) (partials : Option Texts) → IsFoundIn l partials (option_map finds store)
      → RendersTemplate l options template globals partials before after result
