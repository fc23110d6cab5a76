-- From one text of a page to the next, and to what the page shows.
use Rattle.std.proofs.Common.{◌≡◌, ℕ, List, [], Option, None, Some, Result, Ok, Err, sym, ap, subst, ◌∙◌}
use Rattle.std.specs.Prelude.{IfSome, option_map}
use Rattle.liquid_error.specs.meaning.Refusal.{Refusal}
use Rattle.liquid_runtime.specs.meaning.Maps.{Names}
use Rattle.liquid_plugins.specs.meaning.Nodes.{NodeShape}
use Rattle.liquid_parser.specs.meaning.Lang.{Lang}
use Rattle.liquid_parser.specs.meaning.Reading.{Reads}
use Rattle.liquid_partials.specs.meaning.Sources.{Texts}
use Rattle.liquid_pages.specs.declared.fault.PageFault.{PageFault}
use Rattle.liquid_pages.specs.declared.options.PageOptions.{PageOptions}
use Rattle.liquid_pages.specs.meaning.Faults.{Fault, unparsed, fault_told, and_then}
use Rattle.liquid_pages.specs.meaning.Pages.{PageAnswer, Settings}
use Rattle.liquid_pages.specs.meaning.Shown.{NodesComeTo, Page, ReadComesTo, Shows, TextComesTo, page_of_answer, page_run, stopped}
use Rattle.liquid_pages.proofs.ShownLemmas.{fault_shown}

-- a page of which nothing was rendered
pub nothing_shown : (p : Page) (fault : PageFault) (output : List ℕ) (end : Result (Unit {0}) PageFault) → output ≡ [] → end ≡ Err fault
    → IfSome (fault_told fault) (λ f. p ≡ stopped f) → Shows p output end
nothing_shown p fault output end none is tells =
    subst (λ o. Shows p o end) (sym none) (subst (λ e. Shows p [] e) (sym is) (fault_shown p fault tells))

abbrev pub AllRead : Type 0
AllRead = Result (List ℕ × (Names × Texts)) Fault

module _ {Reg F T P L B Q : Type 0} (s : Settings Reg F T P B Q) (l : Lang F T L B) (options : PageOptions) (p : Page) where
  -- a text that was read, and one that has a fault
  pub step_on : {A : Type 0} (given : Result A Fault) (x : A) (next : A → AllRead) → given ≡ Ok x
      → ReadComesTo s l options (and_then given next) p → ReadComesTo s l options (next x) p
  step_on given x next is comes = subst (λ g. ReadComesTo s l options (and_then g next) p) is comes

  step_off : {A : Type 0} (given : Result A Fault) (next : A → AllRead) (t : Option Fault) → IfSome t (λ f. given ≡ Err f)
      → ReadComesTo s l options (and_then given next) p → IfSome t (λ f. p ≡ stopped f)
  step_off given next None is comes = tt
  step_off given next (Some f) is comes = subst (λ g. ReadComesTo s l options (and_then g next) p) is comes

  pub stops_shown : {A : Type 0} (given : Result A Fault) (next : A → AllRead) (fault : PageFault) (output : List ℕ)
      (end : Result (Unit {0}) PageFault) → output ≡ [] → end ≡ Err fault
      → IfSome (fault_told fault) (λ f. given ≡ Err f) → ReadComesTo s l options (and_then given next) p → Shows p output end
  stops_shown given next fault output end none is tells comes =
      nothing_shown p fault output end none is (step_off given next (fault_told fault) tells comes)

  -- a text that is read as these nodes, and one that is refused
  pub text_nodes : (text : List ℕ) (names : Names) (texts : Texts) (nodes : List (NodeShape F T B))
      → ((answer : PageAnswer F T B) → Reads l text answer → answer ≡ Ok nodes)
      → TextComesTo s l options text names texts p → NodesComeTo s l options nodes names texts p
  text_nodes text names texts nodes only comes =
      (comes.2.0, comes.2.1, comes.2.2 ∙ ap (page_of_answer (page_run s options names comes.2.0)) (only comes.0 comes.1))

  pub text_refused : (text : List ℕ) (names : Names) (texts : Texts) (t : Option Refusal)
      → ((answer : PageAnswer F T B) → Reads l text answer → IfSome t (λ r. answer ≡ Err r))
      → TextComesTo s l options text names texts p → IfSome (option_map unparsed t) (λ f. p ≡ stopped f)
  text_refused text names texts None only comes = tt
  text_refused text names texts (Some r) only comes =
      comes.2.2 ∙ ap (page_of_answer (page_run s options names comes.2.0)) (only comes.0 comes.1)
