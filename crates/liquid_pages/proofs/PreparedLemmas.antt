-- From what was read of a page to what it shows.
use Rattle.std.proofs.Common.{◌≡◌, ℕ, Bool, true, false, List, Option, None, Some, Result, Ok, Err, true≢false, sym, ap, subst}
use Rattle.std.specs.Prelude.{IfSome, option_map, if◌then◌else◌}
use Rattle.std.specs.FinMap.{empty}
use Rattle.std.specs.Str.{is_utf8}
use Rattle.liquid_error.specs.declared.error.Error.{Error}
use Rattle.liquid_error.specs.meaning.Told.{told}
use Rattle.liquid_runtime.specs.meaning.Maps.{Names}
use Rattle.liquid_plugins.specs.meaning.Nodes.{NodeShape}
use Rattle.liquid_parser.specs.meaning.Lang.{Lang}
use Rattle.liquid_parser.specs.meaning.Reading.{Reads}
use Rattle.liquid_partials.specs.meaning.Sources.{Texts}
use Rattle.liquid_template.specs.meaning.Partials.{Found}
use Rattle.liquid_pages.specs.declared.fault.PageFault.{PageFault}
use Rattle.liquid_pages.specs.declared.fault.PageFault.TheVariants as page
use Rattle.liquid_pages.specs.declared.fault.PageText.{PageText}
use Rattle.liquid_pages.specs.declared.options.PageOptions.{PageOptions}
use Rattle.liquid_pages.specs.declared.prepared.ReadTexts.{ReadTexts}
use Rattle.liquid_pages.specs.declared.prepared.ReadTexts.TheVariants as read
use Rattle.liquid_pages.specs.meaning.Faults.{Fault, fault_told, no_text, text_read, unparsed}
use Rattle.liquid_pages.specs.meaning.Pages.{PageAnswer, Settings}
use Rattle.liquid_pages.specs.meaning.Prepared.{IsReadAs, IsReadOver}
use Rattle.liquid_pages.specs.meaning.Shown.{
  NameAndText,
  NodesComeTo,
  Page,
  ReadComesTo,
  TextComesTo,
  partials_over,
  partials_read,
  stopped,
}
use Rattle.liquid_pages.proofs.ShownSteps.{step_on, text_nodes, text_refused}

-- bytes that are read as a text are that text
abbrev value_or : List ℕ → Result (List ℕ) Fault → List ℕ
value_or other (Ok bytes) = bytes
value_or other (Err fault) = other

abbrev is_read : Result (List ℕ) Fault → Bool
is_read (Ok bytes) = true
is_read (Err fault) = false

same_if : (which : PageText) (bytes t : List ℕ) (b : Bool) → (if b then Ok bytes else Err (no_text which)) ≡ Ok t → t ≡ bytes
same_if which bytes t true is = sym (ap (value_or bytes) is)
same_if which bytes t false is = absurd (true≢false (sym (ap is_read is)))

pub same_text : (which : PageText) (bytes t : List ℕ) → text_read which bytes ≡ Ok t → t ≡ bytes
same_text which bytes t is = same_if which bytes t (is_utf8 bytes) is

-- bytes whose fault is that they are no text
pub refused_text : (which : PageText) {A : Type 0} (given : Result A Fault) (fault : PageFault) → fault ≡ page.NoText which
    → IfSome (fault_told fault) (λ f. given ≡ Err f) → given ≡ Err (no_text which)
refused_text which given fault is tells = subst (λ x. IfSome (fault_told x) (λ f. given ≡ Err f)) is tells

-- a fault that is that of a page
alike : (t u : Option Fault) (p : Page) → IfSome t (λ f. u ≡ Some f) → IfSome u (λ f. p ≡ stopped f) → IfSome t (λ f. p ≡ stopped f)
alike None u p same stops = tt
alike (Some f) u p same stops = subst (λ o. IfSome o (λ g. p ≡ stopped g)) same stops

module _ {X S F T L B : Type 0} (nodes : X → List (NodeShape F T B)) (finds : S → Found F T B) (l : Lang F T L B) where
  -- what was read beside partials that were read
  pub read_over : (text : List ℕ) (partials : List NameAndText) (texts : Texts) (r : ReadTexts X S)
      → partials_read 0 partials empty ≡ Ok texts → IsReadAs nodes finds l text texts r → IsReadOver nodes finds l text partials r
  read_over text partials texts (read.NoPartial which) is reads = absurd reads
  read_over text partials texts read.NoMemory is reads = tt
  read_over text partials texts (read.Unparsed error) is reads = (texts, is, reads)
  read_over text partials texts (read.Read template store) is reads = (texts, is, reads)

module _ {Reg F T P L B Q : Type 0} (s : Settings Reg F T P B Q) (l : Lang F T L B) (options : PageOptions) (text : List ℕ) (names : Names)
    (partials : List NameAndText) (texts : Texts) (p : Page) (is : partials_read 0 partials empty ≡ Ok texts)
    (comes : ReadComesTo s l options (partials_over text names partials) p) where
  -- a page whose partials were read
  text_comes : TextComesTo s l options text names texts p
  text_comes = step_on s l options p (partials_read 0 partials empty) texts (λ read. Ok (text, (names, read))) is comes

  -- a page whose template can't be parsed
  pub unparsed_shown : (error : Error) (fault : PageFault) → ((answer : PageAnswer F T B) → Reads l text answer
      → IfSome (told error) (λ refusal. answer ≡ Err refusal))
      → IfSome (fault_told fault) (λ f. option_map unparsed (told error) ≡ Some f) → IfSome (fault_told fault) (λ f. p ≡ stopped f)
  unparsed_shown error fault each tells =
      alike (fault_told fault) (option_map unparsed (told error)) p tells
      (text_refused s l options p text names texts (told error) each text_comes)

  -- a page whose template was parsed
  pub nodes_read : (nodes : List (NodeShape F T B)) → ((answer : PageAnswer F T B) → Reads l text answer → answer ≡ Ok nodes)
      → NodesComeTo s l options nodes names texts p
  nodes_read nodes each = text_nodes s l options p text names texts nodes each text_comes
