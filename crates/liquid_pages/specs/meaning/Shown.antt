-- What a page shows, by the bytes of its texts. They are read in this order: the template, the globals, each partial's
-- name and then its text. Each of them must be UTF-8, and the globals must be an object of JSON. Then the template is
-- parsed, and rendered.
use Rattle.std.specs.Prelude.{◌≡◌, ℕ, suc, Bool, List, [], ◌∷◌, ◌++◌, Option, None, Some, Result, Ok, Err, MatchOption, option_map}
use Rattle.std.specs.FinMap.{empty, insert}
use Rattle.liquid_error.specs.declared.error.Error.{Error}
use Rattle.liquid_runtime.specs.meaning.Maps.{Names}
use Rattle.liquid_plugins.specs.meaning.Nodes.{NodeShape}
use Rattle.liquid_parser.specs.meaning.Lang.{Lang}
use Rattle.liquid_parser.specs.meaning.Reading.{Reads}
use Rattle.liquid_template.specs.meaning.Partials.{Found}
use Rattle.liquid_template.specs.meaning.Run.{Run, written}
use Rattle.liquid_partials.specs.meaning.Sources.{Texts}
use Rattle.liquid_pages.specs.declared.fault.PageFault.{PageFault}
use Rattle.liquid_pages.specs.declared.fault.PageFault.TheVariants.{Refused}
use Rattle.liquid_pages.specs.declared.gather.PartialBytes.{PartialBytes}
use Rattle.liquid_pages.specs.declared.fault.PageText.TheVariants.{Template, Globals, PartialName, PartialText}
use Rattle.liquid_pages.specs.declared.options.PageOptions.{PageOptions}
use Rattle.liquid_pages.specs.declared.rendered.Rendered.{Rendered}
use Rattle.liquid_pages.specs.meaning.Faults.{Fault, unparsed, refused, fault_told, and_then, text_read}
use Rattle.liquid_pages.specs.meaning.Globals.{globals_read}
use Rattle.liquid_pages.specs.meaning.Pages.{PageAnswer, Settings, IsFoundIn, first_register, first_view, page_action}

-- the bytes of a partial: its name and its text
abbrev pub NameAndText : Type 0
NameAndText = List ℕ × List ℕ

abbrev pub bytes_of_partial : PartialBytes → NameAndText
bytes_of_partial p = (p.name.now, p.text.now)

-- partials by their names, from the one of this number on; of two with one name the later is kept
abbrev pub partials_read : ℕ → List NameAndText → Texts → Result Texts Fault
partials_read n [] texts = Ok texts
partials_read n (p ∷ ps) texts =
    and_then (text_read (PartialName n) p.0) (λ name. and_then (text_read (PartialText n) p.1)
    (λ text. partials_read (suc n) ps (insert texts name text)))

-- the names of the globals, from bytes that are a text of JSON, with decimals or without
abbrev pub names_read : Bool → List ℕ → Result Names Fault
names_read decimals bytes = and_then (text_read Globals bytes) (globals_read decimals)

-- the texts of a page: the template, the names of its globals and its partials
abbrev pub partials_over : List ℕ → Names → List NameAndText → Result (List ℕ × (Names × Texts)) Fault
partials_over text names partials = and_then (partials_read 0 partials empty) (λ texts. Ok (text, (names, texts)))

abbrev pub page_read : Bool → List ℕ → List ℕ → List NameAndText → Result (List ℕ × (Names × Texts)) Fault
page_read decimals text globals partials =
    and_then (text_read Template text) (λ t. and_then (names_read decimals globals) (λ names. partials_over t names partials))

-- the result of a page: all that it writes, and the fault that ends it, if there is one
pub record Page : Type 0 where
  pub output : List ℕ
  pub fault : Option Fault

abbrev pub stopped : Fault → Page
stopped fault = record { output = []; fault = Some fault }

abbrev pub page_of_run : {Reg : Type 0} → Run Reg → Page
page_of_run r = record { output = written r; fault = option_map refused r.refusal }

abbrev pub page_of_answer : {Reg F T B : Type 0} → (List (NodeShape F T B) → Run Reg) → PageAnswer F T B → Page
page_of_answer run_of (Ok nodes) = page_of_run (run_of nodes)
page_of_answer run_of (Err refusal) = stopped (unparsed refusal)

-- the run of nodes with these options over these names, where a store finds this
abbrev pub page_run : {Reg F T P B Q : Type 0} → Settings Reg F T P B Q → PageOptions → Names → Option (Found F T B)
    → List (NodeShape F T B) → Run Reg
page_run s options names found nodes = page_action s options found names nodes (first_view (first_register s) options names)

module _ {Reg F T P L B Q : Type 0} (s : Settings Reg F T P B Q) (l : Lang F T L B) (options : PageOptions) where
  -- a text over names, with these partials, is rendered as this page
  abbrev pub TextComesTo : List ℕ → Names → Texts → Page → Type 0
  TextComesTo text names texts page =
      (answer : PageAnswer F T B) × Reads l text answer × ((found : Option (Found F T B)) × IsFoundIn l (Some texts) found
      × (page ≡ page_of_answer (page_run s options names found) answer))

  -- nodes over names, with these partials, are rendered as this page
  abbrev pub NodesComeTo : List (NodeShape F T B) → Names → Texts → Page → Type 0
  NodesComeTo nodes names texts page =
      (found : Option (Found F T B)) × IsFoundIn l (Some texts) found × (page ≡ page_of_run (page_run s options names found nodes))

  abbrev pub ReadComesTo : Result (List ℕ × (Names × Texts)) Fault → Page → Type 0
  ReadComesTo (Err fault) page = page ≡ stopped fault
  ReadComesTo (Ok read) page = TextComesTo read.0 read.1.0 read.1.1 page

  -- these bytes are rendered as this page
  abbrev pub ComesTo : List ℕ → List ℕ → List NameAndText → Page → Type 0
  ComesTo text globals partials page = ReadComesTo (page_read options.decimals text globals partials) page

-- how a page ends when its rendering ends in this way
abbrev pub ended : Result (Unit {0}) Error → Result (Unit {0}) PageFault
ended (Ok done) = Ok done
ended (Err error) = Err (Refused error)

-- the output is a beginning of the page's
abbrev pub Begins : List ℕ → Page → Type 0
Begins output page = (left : List ℕ) × (page.output ≡ output ++ left)

-- the output is all of the page's, and the call ends as the page does; if it is out of memory, the output is a
-- beginning of the page's
abbrev pub Shows : Page → List ℕ → Result (Unit {0}) PageFault → Type 0
Shows page output (Ok _) = (output ≡ page.output) × (page.fault ≡ None)
Shows page output (Err fault) = MatchOption (fault_told fault) (Begins output page) (λ f. (output ≡ page.output) × (page.fault ≡ Some f))

-- what was rendered to memory shows the page
abbrev pub IsShown : Page → Rendered → Type 0
IsShown page rendered = Shows page rendered.output.bytes.items rendered.end
