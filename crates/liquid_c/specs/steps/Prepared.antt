-- What a page that was read before comes to, for proofs alone.
use Rattle.std.specs.Prelude.{ℕ, List, Option, map}
use Rattle.liquid_plugins.specs.meaning.Nodes.{NodeShape}
use Rattle.liquid_parser.specs.meaning.Lang.{Lang}
use Rattle.liquid_template.specs.meaning.Partials.{Found}
use Rattle.liquid_pages.specs.declared.options.PageOptions.{PageOptions}
use Rattle.liquid_pages.specs.declared.prepared.ReadTexts.{ReadTexts}
use Rattle.liquid_pages.specs.meaning.Pages.{Settings}
use Rattle.liquid_pages.specs.meaning.Prepared.{IsPrepared}
use Rattle.liquid_pages.specs.meaning.Shown.{ComesTo, NameAndText, Page, bytes_of_partial}
use Rattle.liquid_c.specs.declared.page.Outcome.{Outcome}
use Rattle.liquid_c.specs.declared.page.Page.{Page as Asked}
use Rattle.liquid_c.specs.meaning.Jekyll.{partial_as_read, text_as_read}
use Rattle.liquid_c.specs.meaning.Options.{page_options}
use Rattle.liquid_c.specs.meaning.Outcomes.{Leaves}

-- the page that was asked for comes to this one over these globals, in a language and a setting
abbrev pub AskedComesTo : {Reg F T P L B Q : Type 0} → Settings Reg F T P B Q → Lang F T L B → Asked → List ℕ → Page → Type 0
AskedComesTo s l asked globals page =
    ComesTo s l (page_options asked) asked.text.now globals (map bytes_of_partial asked.partials.now) page

-- the same if its texts are as Jekyll's authors write them
abbrev pub JekyllComesTo : {Reg F T P L B Q : Type 0} → Settings Reg F T P B Q → Lang F T L B → Asked → List ℕ → Page → Type 0
JekyllComesTo s l asked globals page =
    ComesTo s l (page_options asked) (text_as_read asked.text.now) globals
    (map partial_as_read (map bytes_of_partial asked.partials.now)) page

-- the page over these globals is this one, if what was read is that of some bytes in some language, which come to it
pub record PreparedComesTo {X S Reg F T P B Q : Type 0} (L : Type 0) (s : Settings Reg F T P B Q) (nodes : X → List (NodeShape F T B))
    (finds : S → Found F T B)
    (read : Option (ReadTexts X S)) (options : PageOptions) (globals : List ℕ) (page : Page) : Type 0 where
  pub l : Lang F T L B
  pub text : List ℕ
  pub partials : List NameAndText
  pub prepared : IsPrepared nodes finds l text partials read
  pub comes : ComesTo s l options text globals partials page

-- what a call leaves of whatever page the globals come to
abbrev pub LeavesOf : (List ℕ → Page → Type 0) → List ℕ → List ℕ → List ℕ → Outcome → Type 0
LeavesOf Comes globals old new o = (page : Page) → Comes globals page → Leaves page old new o
