-- The result of rendering a text, by what the text is read as.
use Rattle.std.specs.Prelude.{◌≡◌, ℕ, List, Option, Result, Ok, Err, IfSome}
use Rattle.liquid_error.specs.declared.error.Error.{Error}
use Rattle.liquid_error.specs.meaning.Refusal.{Refusal}
use Rattle.liquid_error.specs.meaning.Told.{told}
use Rattle.liquid_runtime.specs.meaning.View.{View}
use Rattle.liquid_plugins.specs.meaning.Chain.{FilterMeaning}
use Rattle.liquid_plugins.specs.meaning.Nodes.{NodeShape, nodes_from}
use Rattle.liquid_plugins.specs.meaning.Turns.{NodeMeaning}
use Rattle.liquid_parser.specs.meaning.Lang.{Lang}
use Rattle.liquid_parser.specs.meaning.Reading.{Reads}
use Rattle.liquid_template.specs.meaning.Nodes.{Setting}
use Rattle.liquid_template.specs.meaning.Outcome.{Renders}
use Rattle.liquid_template.specs.meaning.Rendering.{template_run}
use Rattle.liquid_template.specs.meaning.Partials.{Found, partials_of}
use Rattle.liquid_template.specs.meaning.Run.{Action}
use Rattle.liquid_template.specs.meaning.Runs.{setting}
use Rattle.liquid_template.specs.meaning.Sunk.{Sunk}

-- the call is refused in this way; an out-of-memory error says nothing about the reason
abbrev pub Refuses : Refusal → Result (Unit {0}) Error → Type 0
Refuses refusal (Ok _) = ⊥
Refuses refusal (Err error) = IfSome (told error) (λ reason. reason ≡ refusal)

-- a text that is read as nodes is rendered as they are; one that is refused has the same refusal, with nothing written
-- and nothing changed
abbrev pub RenderedBy : {Reg F T B : Type 0} → (List (NodeShape F T B) → Action Reg) → Result (List (NodeShape F T B)) Refusal → View Reg
    → Sunk → Sunk → View Reg → Result (Unit {0}) Error → Type 0
RenderedBy action (Ok nodes) v before after left result = Renders (action nodes v) v before after left result
RenderedBy action (Err refusal) v before after left result = (after ≡ before) × ((left ≡ v) × Refuses refusal result)

-- nodes are rendered as their template's run
abbrev pub Rendered : {Reg F T P B Q : Type 0} → Setting Reg F T P B Q → Result (List (NodeShape F T B)) Refusal → View Reg → Sunk → Sunk
    → View Reg → Result (Unit {0}) Error → Type 0
Rendered s = RenderedBy (λ nodes. template_run s (nodes_from nodes))

-- the setting over the store of a runtime
abbrev pub setting_by : {A R Reg F T P B Q : Type 0} → Reg → FilterMeaning F → NodeMeaning T P Reg → NodeMeaning B Q Reg
    → (A → Found F T B) → (R → Option A) → R → Setting Reg F T P B Q
setting_by fresh filters tags blocks finds store runtime = setting fresh filters tags blocks (partials_of finds (store runtime))

-- a call that renders a text in a language over a runtime, in its setting, and writes to a sink: `view` is what contracts see of the
-- runtime, which is given as it was before and after the call, and so is the sink
abbrev pub Writes : {R K Reg F T L P B Q : Type 0} → (R → View Reg) → (K → Sunk) → Lang F T L B → List ℕ
    → (R → Setting Reg F T P B Q) → R → R → K → K → Result (Unit {0}) Error → Type 0
Writes {F = F} {T = T} {B = B} view sunk language text settings runtime left before after result =
    (answer : Result (List (NodeShape F T B)) Refusal) → Reads language text answer
    → Rendered (settings runtime) answer (view runtime) (sunk before) (sunk after) (view left) result
