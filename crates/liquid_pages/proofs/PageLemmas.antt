-- From the contracts of the calls below to the result of a page.
use Rattle.std.proofs.Common.{◌≡◌, List, Option, None, Some, Result, Ok, Err, refl, sym, ap, subst, ◌∙◌}
use Rattle.std.specs.Prelude.{IfSome}
use Rattle.liquid_error.specs.declared.error.Error.{Error}
use Rattle.liquid_error.specs.meaning.Refusal.{Refusal}
use Rattle.liquid_error.specs.meaning.Told.{told}
use Rattle.liquid_runtime.specs.meaning.Maps.{Names}
use Rattle.liquid_runtime.specs.meaning.View.{View}
use Rattle.liquid_parser.specs.meaning.Lang.{Lang}
use Rattle.liquid_template.specs.meaning.Partials.{Found}
use Rattle.liquid_plugins.specs.meaning.Nodes.{NodeShape}
use Rattle.liquid_template.specs.meaning.Outcome.{Renders as RendersRun}
use Rattle.liquid_template.specs.meaning.Output.{ungated}
use Rattle.liquid_template.specs.meaning.Sunk.{Sunk}
use Rattle.liquid_template.proofs.Framing.{renders_memory, without_gate}
use Rattle.liquid_partials.specs.meaning.Compiled.{Compiled}
use Rattle.liquid_partials.specs.meaning.Rendered.{RenderedBy}
use Rattle.liquid_partials.specs.meaning.Sources.{Texts}
use Rattle.liquid_partials.proofs.RenderedLemmas.{RenderedBy-refused}
use Rattle.liquid_partials.proofs.StoreLemmas.{one_store}
use Rattle.liquid_pages.specs.declared.options.PageFrame.{PageFrame}
use Rattle.liquid_pages.specs.declared.options.PageOptions.{PageOptions}
use Rattle.liquid_pages.specs.declared.options.Room.{Room}
use Rattle.liquid_pages.specs.meaning.Limited.{limited, room_of}
use Rattle.liquid_pages.specs.meaning.Pages.{
  IsFoundIn,
  PageAnswer,
  RendersAnswer,
  Settings,
  built_over,
  first_register,
  first_view,
  nodes_action,
  page_action,
  runtime_names,
}

module _ {Reg F T P L B Q : Type 0} (s : Settings Reg F T P B Q) (l : Lang F T L B) where
  -- a source has at most one store
  one_found : (partials : Option Texts) (found other : Option (Found F T B)) → IsFoundIn l partials found → IsFoundIn l partials other
      → found ≡ other
  one_found None found other is also = is ∙ sym also
  one_found (Some texts) None other is also = absurd is
  one_found (Some texts) (Some found) None is also = absurd also
  one_found (Some texts) (Some found) (Some other) is also = ap Some (sym (one_store l texts found other is also))

  -- what the runtime's store finds, and the view of a built runtime
  pub answer_over : (options : PageOptions) (frame : PageFrame) (room : Option Room) (nodes : List (NodeShape F T B))
      (stored found : Option (Found F T B)) (v left : View Reg) (names : Names) (partials : Option Texts) (before after : Sunk)
      (result : Result (Unit {0}) Error)
      → options.frame ≡ frame → room ≡ room_of options
      → RendersRun (limited room (nodes_action s frame stored names nodes) v) v before after left result
      → stored ≡ found → v ≡ built_over (first_register s) options.leniency (runtime_names frame names) → IsFoundIn l partials found
      → RendersAnswer s l options (Ok nodes) names partials before after result
  answer_over options frame room nodes stored found v left names partials before after result is same_room given same_stored same_v
      is_found =
      record {
        left = left;
        rendered = λ other is_other.
            subst (λ w. RendersRun (page_action s options other names nodes w) w before after left result)
            (same_v ∙ ap (λ b. built_over (first_register s) options.leniency (runtime_names b names)) (sym is))
            (subst (λ b. RendersRun (limited (room_of options) (nodes_action s b other names nodes) v) v before after left result) (sym is)
            (subst (λ t. RendersRun (limited (room_of options) (nodes_action s frame t names nodes) v) v before after left result)
            (same_stored ∙ one_found partials found other is_found is_other)
            (subst (λ m. RendersRun (limited m (nodes_action s frame stored names nodes) v) v before after left result) same_room given)));
      }

  -- a result that is these nodes
  pub nodes_over : (options : PageOptions) (answer nodes : PageAnswer F T B) (names : Names) (partials : Option Texts) (before after : Sunk)
      (result : Result (Unit {0}) Error)
      → answer ≡ nodes → RendersAnswer s l options nodes names partials before after result
      → RendersAnswer s l options answer names partials before after result
  nodes_over options answer nodes names partials before after result is renders =
      subst (λ a. RendersAnswer s l options a names partials before after result) (sym is) renders

  -- memory that runs out before anything is written is an outcome of each rendering
  nothing_comes : (options : PageOptions) (names : Names) (at : Sunk) (error : Error) → told error ≡ None
      → (answer : PageAnswer F T B) (found : Option (Found F T B))
      → RenderedBy (page_action s options found names) answer (first_view (first_register s) options names) at at
      (first_view (first_register s) options names) (Err error)
  nothing_comes options names at error memory (Ok nodes) found =
      without_gate (page_action s options found names nodes (first_view (first_register s) options names))
      (first_view (first_register s) options names) (first_view (first_register s) options names) at at (Err error)
      (renders_memory (page_action s options found names nodes (first_view (first_register s) options names))
      (first_view (first_register s) options names) (ungated at) error memory)
  nothing_comes options names at error memory (Err refusal) found =
      (refl, (refl, subst (λ (o : Option Refusal). IfSome o (λ reason. reason ≡ refusal)) (sym memory) tt))

  pub nothing_rendered : (options : PageOptions) (answer : PageAnswer F T B) (names : Names) (partials : Option Texts) (at : Sunk)
      (error : Error) → told error ≡ None → RendersAnswer s l options answer names partials at at (Err error)
  nothing_rendered options answer names partials at error memory =
      record {
        left = first_view (first_register s) options names;
        rendered = λ found is_found. nothing_comes options names at error memory answer found;
      }

  -- a text that is refused has the same refusal
  pub refused_alike : (options : PageOptions) (answer : PageAnswer F T B) (names : Names) (partials : Option Texts) (at : Sunk)
      (error : Error) → IfSome (told error) (λ refusal. answer ≡ Err refusal)
      → RendersAnswer s l options answer names partials at at (Err error)
  refused_alike options answer names partials at error only =
      record {
        left = first_view (first_register s) options names;
        rendered = λ found is_found. RenderedBy-refused (page_action s options found names) answer
            (first_view (first_register s) options names) at error only;
      }

-- a store that was compiled from the partials
pub found_in : {F T L B : Type 0} (partials : Option Texts) (source texts : Texts) (l k : Lang F T L B) (found : Found F T B)
    → partials ≡ Some source → texts ≡ source → k ≡ l → Compiled k texts found → IsFoundIn l partials (Some found)
found_in partials source texts l k found is same_texts same_l compiled =
    subst (λ p. IsFoundIn l p (Some found)) (sym is)
    (subst (λ t. Compiled l t found) same_texts (subst (λ m. Compiled m texts found) same_l compiled))
