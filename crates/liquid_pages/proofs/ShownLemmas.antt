-- From what is written to a sink over memory to what a page shows.
use Rattle.std.proofs.Common.{
  ◌≡◌,
  ℕ,
  Bool,
  true,
  false,
  inl,
  inr,
  List,
  [],
  ◌++◌,
  Option,
  None,
  Some,
  Result,
  Ok,
  Err,
  ◌+◌,
  arith,
  refl,
  sym,
  ap,
  subst,
  ◌∙◌,
  append_assoc,
}
use Rattle.std.specs.Prelude.{IfSome, MatchOption, option_map, IsUtf8}
use Rattle.std.specs.Str.{is_utf8}
use Rattle.std.proofs.lemmas.Str.{IsUtf8-from_is_utf8, is_utf8-from_IsUtf8}
use Rattle.liquid_error.specs.declared.error.Error.{Error}
use Rattle.liquid_error.specs.meaning.Refusal.{Refusal}
use Rattle.liquid_error.specs.meaning.Told.{told}
use Rattle.liquid_runtime.specs.meaning.Maps.{Names}
use Rattle.liquid_runtime.specs.meaning.View.{View}
use Rattle.liquid_plugins.specs.meaning.Nodes.{NodeShape}
use Rattle.liquid_parser.specs.meaning.Lang.{Lang}
use Rattle.liquid_template.specs.meaning.Outcome.{BrokenOff, Cut, GateRefuses, Outcome, SinkFails, Stopped, Whole}
use Rattle.liquid_template.specs.meaning.Output.{Output, ungated}
use Rattle.liquid_template.specs.meaning.Run.{Run, Step, pieces, written}
use Rattle.liquid_template.specs.meaning.Sunk.{alone}
use Rattle.liquid_template.proofs.Joins.{pieces-append}
use Rattle.liquid_partials.specs.meaning.Sources.{Texts}
use Rattle.liquid_pages.specs.declared.fault.PageFault.{PageFault}
use Rattle.liquid_pages.specs.declared.fault.PageText.{PageText}
use Rattle.liquid_pages.specs.declared.options.PageOptions.{PageOptions}
use Rattle.liquid_pages.specs.meaning.Faults.{Fault, no_text, refused, fault_told, text_read}
use Rattle.liquid_pages.specs.meaning.Pages.{RendersAnswer, Settings}
use Rattle.liquid_pages.specs.meaning.Shown.{Begins, NodesComeTo, Page, Shows, ended, page_of_run, page_run, stopped}

-- bytes that are a text, and bytes that are not
pub text_is : (which : PageText) (bytes : List ℕ) → IsUtf8 bytes → text_read which bytes ≡ Ok bytes
text_is which bytes is = rw (is_utf8-from_IsUtf8 bytes is) refl

not_text : (bytes : List ℕ) (b : Bool) → is_utf8 bytes ≡ b → ¬ (IsUtf8 bytes) → b ≡ false
not_text bytes true is none = absurd (none (IsUtf8-from_is_utf8 bytes is))
not_text bytes false is none = refl

pub no_text_is : (which : PageText) (bytes : List ℕ) → ¬ (IsUtf8 bytes) → text_read which bytes ≡ Err (no_text which)
no_text_is which bytes none = rw (not_text bytes (is_utf8 bytes) refl none) refl

module _ {Reg : Type 0} (r : Run Reg) (first last : List ℕ) (left : View Reg) (nothing : first ≡ []) where
  abbrev At : List ℕ → Output
  At taken = ungated (alone taken 0)

  all_written : Whole r (At first) (At last) left → last ≡ written r
  all_written w = w.taken ∙ ap (λ t. t ++ written r) nothing

  begins : Cut r (At first) (At last) → Begins last (page_of_run r)
  begins c = (
    c.rest ++ pieces c.later,
    ap pieces c.steps ∙ pieces-append c.front c.later ∙ ap (λ t. t ++ pieces c.later) c.pieces_are
        ∙ append_assoc c.part c.rest (pieces c.later)
        ∙ ap (λ t. t ++ (c.rest ++ pieces c.later)) (sym (c.taken ∙ ap (λ t. t ++ c.part) nothing)),
  )

  never_fails : (step : Step Reg) (rest : List ℕ) (turns bytes : ℕ) (refusal : Refusal)
      → SinkFails step rest turns bytes (At first) (At last) refusal → ⊥
  never_fails step rest turns bytes refusal f = let one : 0 ≡ 0 + 1 = f.failures in omega (arith, one)

  never_refused : (step : Step Reg) (part : List ℕ) (turns bytes : ℕ) (refusal : Refusal)
      → GateRefuses step part turns bytes (At first) (At last) refusal → ⊥
  never_refused step part turns bytes refusal g = elim g.refused as (λ _. ⊥) [ inl t ↦ t.1 | inr b ↦ b.2 ]

  never_broken : (refusal : Refusal) → BrokenOff r (At first) (At last) left refusal → ⊥
  never_broken refusal b =
      elim b.cause as (λ _. ⊥) [ inl f ↦ never_fails b.step b.rest _ _ refusal f | inr g ↦ never_refused b.step b.part _ _ refusal g ]

  stopped_shown : (t : Option Refusal) → MatchOption t (Cut r (At first) (At last)) (Stopped r (At first) (At last) left)
      → MatchOption (option_map refused t) (Begins last (page_of_run r))
      (λ f. (last ≡ (page_of_run r).output) × ((page_of_run r).fault ≡ Some f))
  stopped_shown None c = begins c
  stopped_shown (Some refusal) (inl s) = (all_written s.0, ap (option_map refused) s.1)
  stopped_shown (Some refusal) (inr b) = absurd (never_broken refusal b)

  shown_outcome : (result : Result (Unit {0}) Error) → Outcome r (At first) (At last) left result
      → Shows (page_of_run r) last (ended result)
  shown_outcome (Ok done) o = (all_written o.0, ap (option_map refused) o.1)
  shown_outcome (Err error) o = stopped_shown (told error) o

-- what was read was rendered to an empty sink
pub nodes_shown : {Reg F T P L B Q : Type 0} (s : Settings Reg F T P B Q) (l : Lang F T L B) (options : PageOptions)
    (nodes : List (NodeShape F T B)) (names : Names) (texts : Texts) (first last : List ℕ) (result : Result (Unit {0}) Error)
    (end : Result (Unit {0}) PageFault)
    → first ≡ [] → end ≡ ended result → RendersAnswer s l options (Ok nodes) names (Some texts) (alone first 0) (alone last 0) result
    → (p : Page) → NodesComeTo s l options nodes names texts p → Shows p last end
nodes_shown s l options nodes names texts first last result end nothing is renders p comes =
    subst (λ e. Shows p last e) (sym is)
    (subst (λ q. Shows q last (ended result)) (sym comes.2)
    (shown_outcome (page_run s options names comes.0 nodes) first last renders.left nothing result
    (renders.rendered comes.0 comes.1).outcome))

fault_shown_told : (p : Page) (t : Option Fault) → IfSome t (λ f. p ≡ stopped f)
    → MatchOption t (Begins [] p) (λ f. ([] ≡ p.output) × (p.fault ≡ Some f))
fault_shown_told p None tells = (p.output, refl)
fault_shown_told p (Some f) tells = (sym (ap (λ q. q.output) tells), ap (λ q. q.fault) tells)

-- a page that stops with a fault, with nothing written
pub fault_shown : (p : Page) (fault : PageFault) → IfSome (fault_told fault) (λ f. p ≡ stopped f) → Shows p [] (Err fault)
fault_shown p fault tells = fault_shown_told p (fault_told fault) tells
