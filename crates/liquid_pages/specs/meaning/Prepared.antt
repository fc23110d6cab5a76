-- A page without its globals: what was read of its template and of its partials.
use Rattle.std.specs.Prelude.{◌≡◌, ℕ, List, Option, None, Some, Ok, Err, option_map, IfSome, ⊤}
use Rattle.std.specs.FinMap.{empty}
use Rattle.liquid_error.specs.meaning.Told.{told}
use Rattle.liquid_plugins.specs.meaning.Nodes.{NodeShape}
use Rattle.liquid_parser.specs.meaning.Lang.{Lang}
use Rattle.liquid_parser.specs.meaning.Reading.{Reads}
use Rattle.liquid_partials.specs.meaning.Sources.{Texts}
use Rattle.liquid_template.specs.declared.template.Template.{Template as TemplateOf}
use Rattle.liquid_template.specs.meaning.OfTypes.{FilterType, NodeType}
use Rattle.liquid_template.specs.meaning.Partials.{Found}
use Rattle.liquid_template.specs.meaning.Runs.{setting}
use Rattle.liquid_pages.specs.declared.fault.PageText.TheVariants.{Template}
use Rattle.liquid_pages.specs.declared.options.PageOptions.{PageOptions}
use Rattle.liquid_pages.specs.declared.prepared.ReadTexts.{ReadTexts}
use Rattle.liquid_pages.specs.declared.prepared.ReadTexts.TheVariants as read
use Rattle.liquid_pages.specs.meaning.Faults.{no_text, text_read}
use Rattle.liquid_pages.specs.declared.rendered.Rendered.{Rendered}
use Rattle.liquid_pages.specs.meaning.Pages.{IsFoundIn, PageAnswer, nodes_in}
use Rattle.liquid_pages.specs.meaning.Shown.{ComesTo, IsShown, NameAndText, Page, partials_read}

-- by the nodes of a template and what a store finds, for a language and the bytes of a template
module _ {X S F T L B : Type 0} (nodes : X → List (NodeShape F T B)) (finds : S → Found F T B) (l : Lang F T L B) (text : List ℕ) where
  -- this holds for each answer that the text is read as
  abbrev pub EachAnswer : (PageAnswer F T B → Type 0) → Type 0
  EachAnswer Is = (answer : PageAnswer F T B) → Reads l text answer → Is answer

  -- what was read of the text, beside these partials: its refusal, or its template and a store of the partials
  abbrev pub IsReadAs : Texts → ReadTexts X S → Type 0
  IsReadAs texts (read.NoPartial which) = ⊥
  IsReadAs texts read.NoMemory = ⊤
  IsReadAs texts (read.Unparsed error) = EachAnswer (λ answer. IfSome (told error) (λ refusal. answer ≡ Err refusal))
  IsReadAs texts (read.Read template store) =
      EachAnswer (λ answer. answer ≡ Ok (nodes template)) × IsFoundIn l (Some texts) (option_map finds store)

  -- the same by the bytes of the partials, which are read first
  abbrev pub IsReadOver : List NameAndText → ReadTexts X S → Type 0
  IsReadOver partials (read.NoPartial which) = partials_read 0 partials empty ≡ Err (no_text which)
  IsReadOver partials read.NoMemory = ⊤
  IsReadOver partials (read.Unparsed error) =
      (texts : Texts) × (partials_read 0 partials empty ≡ Ok texts) × IsReadAs texts (read.Unparsed error)
  IsReadOver partials (read.Read template store) =
      (texts : Texts) × (partials_read 0 partials empty ≡ Ok texts) × IsReadAs texts (read.Read template store)

  -- the same by the bytes of the template, which are read before the partials
  abbrev pub IsPrepared : List NameAndText → Option (ReadTexts X S) → Type 0
  IsPrepared partials None = text_read Template text ≡ Err (no_text Template)
  IsPrepared partials (Some texts) = (text_read Template text ≡ Ok text) × IsReadOver partials texts

-- of whatever bytes, in whatever language, a page was prepared, it still is afterwards; `L` is what blocks plan
abbrev pub StaysPrepared : {X S F T B : Type 0} → (L : Type 0) → (X → List (NodeShape F T B)) → (S → Found F T B)
    → Option (ReadTexts X S) → Option (ReadTexts X S) → Type 0
StaysPrepared {F = F} {T = T} {B = B} L nodes finds before after =
    (l : Lang F T L B) (text : List ℕ) (partials : List NameAndText)
    → IsPrepared nodes finds l text partials before → IsPrepared nodes finds l text partials after

-- of whatever bytes, in whatever language, a page was prepared, what they come to over these globals is shown
abbrev pub PreparedShows : {X N K S Reg F T P B Q : Type 0} → (L : Type 0)
    → Reg → FilterType X F → NodeType N T P Reg → NodeType K B Q Reg → (S → Found F T B)
    → PageOptions → List ℕ → Option (ReadTexts (TemplateOf X N K) S) → Rendered → Type 0
PreparedShows {F = F} {T = T} {B = B} L fresh filter tag block finds options globals prepared rendered =
    (l : Lang F T L B) (text : List ℕ) (partials : List NameAndText)
    → IsPrepared (nodes_in filter.shape tag.shape block.shape) finds l text partials prepared
    → (shown : Page) → ComesTo (setting fresh filter.means tag.means block.means) l options text globals partials shown
    → IsShown shown rendered
