-- From the contracts of the calls below to the result of a page.
use Rattle.std.proofs.Common.{◌≡◌, ℕ, List, Option, None, Some, Result, Ok, Err, refl, sym, ap, subst, ◌∙◌}
use Rattle.std.specs.Prelude.{IfSome}
use Rattle.liquid_error.specs.declared.error.Error.{Error}
use Rattle.liquid_error.specs.meaning.Refusal.{Refusal}
use Rattle.liquid_error.specs.meaning.Told.{told}
use Rattle.liquid_runtime.specs.meaning.Frames.{built_view}
use Rattle.liquid_runtime.specs.meaning.Maps.{Names}
use Rattle.liquid_runtime.specs.meaning.View.{View}
use Rattle.liquid_plugins.specs.meaning.Nodes.{NodeShape, nodes_from}
use Rattle.liquid_parser.specs.meaning.Lang.{Lang}
use Rattle.liquid_parser.specs.meaning.Reading.{Reads}
use Rattle.liquid_template.specs.meaning.Nodes.{Setting}
use Rattle.liquid_template.specs.meaning.Output.{ungated}
use Rattle.liquid_template.specs.meaning.Partials.{Found}
use Rattle.liquid_template.specs.meaning.Rendering.{template_run}
use Rattle.liquid_template.specs.meaning.Sunk.{Sunk}
use Rattle.liquid_template.proofs.Framing.{renders_memory, without_gate}
use Rattle.liquid_partials.specs.meaning.Compiled.{Compiled}
use Rattle.liquid_partials.specs.meaning.Pages.{RendersPage, page_depth}
use Rattle.liquid_partials.specs.meaning.Rendered.{Rendered}
use Rattle.liquid_partials.specs.meaning.Sources.{Texts}
use Rattle.liquid_partials.proofs.StoreLemmas.{one_store}

-- what a store finds that was compiled from the same texts in the same language
pub compiled_alike : {F T L B : Type 0} (l k : Lang F T L B) (texts others : Texts) (found : Found F T B)
    → l ≡ k → texts ≡ others → Compiled l texts found → Compiled k others found
compiled_alike l k texts others found same_l same_texts compiled =
    subst (λ t. Compiled k t found) same_texts (subst (λ w. Compiled w texts found) same_l compiled)

module _ {Reg F T L P B Q : Type 0} (fresh : Reg) (settings : Option (Found F T B) → Setting Reg F T P B Q) (k : Lang F T L B)
    (text : List ℕ) (globals : Names) (partials : Texts) where
  -- the language, what the runtime's store finds, and the view of a built runtime
  pub page_over : (l : Lang F T L B) (stored : Option (Found F T B)) (found : Found F T B) (v left : View Reg) (before after : Sunk)
      (result : Result (Unit {0}) Error)
      → ((answer : Result (List (NodeShape F T B)) Refusal) → Reads l text answer
      → Rendered (settings stored) answer v before after left result)
      → l ≡ k → stored ≡ Some found → v ≡ built_view fresh page_depth globals → Compiled k partials found
      → RendersPage fresh settings k text globals partials before after result
  page_over l stored found v left before after result given same_l same_stored same_v compiled = record {
    left = left;
    rendered = λ answer reads other is_other.
        subst (λ w. Rendered (settings (Some other)) answer w before after left result) same_v
        (subst (λ s. Rendered (settings s) answer v before after left result)
        (same_stored ∙ ap Some (sym (one_store k partials found other compiled is_other)))
        (given answer (subst (λ m. Reads m text answer) (sym same_l) reads)));
  }

  -- memory that runs out before anything is written is an outcome of each page
  nothing_comes : (at : Sunk) (error : Error) → told error ≡ None → (answer : Result (List (NodeShape F T B)) Refusal) (finds : Found F T B)
      → Rendered (settings (Some finds)) answer (built_view fresh page_depth globals) at at (built_view fresh page_depth globals)
      (Err error)
  nothing_comes at error memory (Ok nodes) finds =
      let start = built_view fresh page_depth globals in
      let run = template_run (settings (Some finds)) (nodes_from nodes) start in
      without_gate run start start at at (Err error) (renders_memory run start (ungated at) error memory)
  nothing_comes at error memory (Err refusal) finds =
      (refl, (refl, subst (λ (o : Option Refusal). IfSome o (λ reason. reason ≡ refusal)) (sym memory) tt))

  pub no_page : (at : Sunk) (error : Error) → told error ≡ None → RendersPage fresh settings k text globals partials at at (Err error)
  no_page at error memory =
      record {
        left = built_view fresh page_depth globals;
        rendered = λ answer reads finds compiled. nothing_comes at error memory answer
            finds;
      }
