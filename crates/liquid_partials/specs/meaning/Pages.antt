-- The result of a page: a text that is rendered over globals alone, with the partials of a source.
use Rattle.std.specs.Prelude.{List, ℕ, Some, Option, Result}
use Rattle.liquid_error.specs.declared.error.Error.{Error}
use Rattle.liquid_error.specs.meaning.Refusal.{Refusal}
use Rattle.liquid_runtime.specs.meaning.Frames.{built_view}
use Rattle.liquid_runtime.specs.meaning.Maps.{Names}
use Rattle.liquid_runtime.specs.meaning.View.{View}
use Rattle.liquid_plugins.specs.meaning.Nodes.{NodeShape}
use Rattle.liquid_parser.specs.meaning.Lang.{Lang}
use Rattle.liquid_parser.specs.meaning.Reading.{Reads}
use Rattle.liquid_template.specs.meaning.Nodes.{Setting}
use Rattle.liquid_template.specs.meaning.Partials.{Found}
use Rattle.liquid_template.specs.meaning.Sunk.{Sunk}
use Rattle.liquid_partials.specs.meaning.Compiled.{Compiled}
use Rattle.liquid_partials.specs.meaning.Rendered.{Rendered}
use Rattle.liquid_partials.specs.meaning.Sources.{Texts}

-- the number of partials that may be nested
abbrev pub page_depth : ℕ
page_depth = 32

module _ {Reg F T L P B Q : Type 0} where
  -- a text that the language refuses has the same refusal, with nothing written; otherwise the outcome is that of the run of
  -- its nodes, in a view of the globals alone, where each partial is the result of parsing its text
  pub record RendersPage (fresh : Reg) (settings : Option (Found F T B) → Setting Reg F T P B Q) (l : Lang F T L B) (text : List ℕ)
      (globals : Names) (partials : Texts) (before after : Sunk) (result : Result (Unit {0}) Error) : Type 0 where
    pub left : View Reg
    pub rendered : (answer : Result (List (NodeShape F T B)) Refusal) → Reads l text answer
        → (finds : Found F T B) → Compiled l partials finds
        → Rendered (settings (Some finds)) answer (built_view fresh page_depth globals) before after left result
