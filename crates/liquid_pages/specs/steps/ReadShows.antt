-- What a page shows whose texts were read, for proofs alone; `L` is what blocks plan.
use Rattle.std.specs.Prelude.{ℕ, List, Option, Some, option_map}
use Rattle.liquid_runtime.specs.meaning.Maps.{Names}
use Rattle.liquid_plugins.specs.meaning.Nodes.{NodeShape}
use Rattle.liquid_parser.specs.meaning.Lang.{Lang}
use Rattle.liquid_partials.specs.meaning.Sources.{Texts}
use Rattle.liquid_template.specs.declared.template.Template.{Template}
use Rattle.liquid_template.specs.meaning.OfTypes.{FilterType, NodeType}
use Rattle.liquid_template.specs.meaning.Partials.{Found}
use Rattle.liquid_template.specs.meaning.Runs.{setting}
use Rattle.liquid_pages.specs.declared.options.PageOptions.{PageOptions}
use Rattle.liquid_pages.specs.declared.prepared.ReadTexts.{ReadTexts}
use Rattle.liquid_pages.specs.declared.rendered.Rendered.{Rendered}
use Rattle.liquid_pages.specs.meaning.Pages.{IsFoundIn, nodes_in}
use Rattle.liquid_pages.specs.meaning.Prepared.{IsReadOver}
use Rattle.liquid_pages.specs.meaning.Shown.{IsShown, NameAndText, NodesComeTo, Page, ReadComesTo, partials_over}

-- what was read of a text and its partials is still that
abbrev pub StaysRead : {X S F T B : Type 0} → (L : Type 0) → (X → List (NodeShape F T B)) → (S → Found F T B) → ReadTexts X S
    → ReadTexts X S → Type 0
StaysRead {F = F} {T = T} {B = B} L nodes finds before after =
    (l : Lang F T L B) (text : List ℕ) (partials : List NameAndText)
    → IsReadOver nodes finds l text partials before → IsReadOver nodes finds l text partials after

module _ {X N K S Reg F T P B Q : Type 0} (L : Type 0) (fresh : Reg) (filter : FilterType X F) (tag : NodeType N T P Reg)
    (block : NodeType K B Q Reg)
    (finds : S → Found F T B) (options : PageOptions) where
  -- what was read comes to a page over these names, which is shown
  abbrev pub ReadShows : Names → ReadTexts (Template X N K) S → Rendered → Type 0
  ReadShows names texts rendered =
      (l : Lang F T L B) (text : List ℕ) (partials : List NameAndText)
      → IsReadOver (nodes_in filter.shape tag.shape block.shape) finds l text partials texts
      → (shown : Page) → ReadComesTo (setting fresh filter.means tag.means block.means) l options (partials_over text names partials) shown
      → IsShown shown rendered

  -- a template comes to a page over these names and a store of partials, which is shown
  abbrev pub TemplateShows : Names → Template X N K → Option S → Rendered → Type 0
  TemplateShows names template store rendered =
      (l : Lang F T L B) (texts : Texts) → IsFoundIn l (Some texts) (option_map finds store)
      → (shown : Page) → NodesComeTo (setting fresh filter.means tag.means block.means) l options
      (nodes_in filter.shape tag.shape block.shape template) names texts shown
      → IsShown shown rendered
