-- From what a text is read as to the result of rendering it.
use Rattle.std.proofs.Common.{◌≡◌, List, Option, None, Some, Result, Ok, Err, refl}
use Rattle.std.specs.Prelude.{IfSome}
use Rattle.liquid_error.specs.declared.error.Error.{Error}
use Rattle.liquid_error.specs.meaning.Refusal.{Refusal}
use Rattle.liquid_error.specs.meaning.Told.{told}
use Rattle.liquid_runtime.specs.meaning.View.{View}
use Rattle.liquid_plugins.specs.meaning.Nodes.{NodeShape}
use Rattle.liquid_template.specs.meaning.Actions.{refuses}
use Rattle.liquid_template.specs.meaning.Outcome.{Renders}
use Rattle.liquid_template.specs.meaning.Output.{ungated}
use Rattle.liquid_template.specs.meaning.Run.{Action, Run}
use Rattle.liquid_template.specs.meaning.Sunk.{Sunk}
use Rattle.liquid_template.proofs.Framing.{without_gate}
use Rattle.liquid_template.proofs.Joins.{renders_refused}
use Rattle.liquid_partials.specs.meaning.Rendered.{RenderedBy}

module _ {Reg F T B : Type 0} (action : List (NodeShape F T B) → Action Reg) where
  abbrev Answer : Type 0
  Answer = Result (List (NodeShape F T B)) Refusal

  -- a text that is read as nodes is rendered as they are
  pub RenderedBy-read : (answer : Answer) (nodes : List (NodeShape F T B)) (v left : View Reg) (before after : Sunk)
      (result : Result (Unit {0}) Error)
      → answer ≡ Ok nodes → Renders (action nodes v) v before after left result → RenderedBy action answer v before after left result
  RenderedBy-read answer nodes v left before after result is r = rw is r

  not_read : (nodes : List (NodeShape F T B)) (r : Run Reg) (v : View Reg) (t : Option Refusal)
      → IfSome t (λ refusal. let a : Answer = Ok nodes in a ≡ Err refusal) → IfSome t (λ refusal. r ≡ refuses refusal v)
  not_read nodes r v None h = h
  not_read nodes r v (Some refusal) h = cc h

  same_refusal : (refusal : Refusal) (t : Option Refusal) → IfSome t (λ reason. let a : Answer = Err refusal in a ≡ Err reason)
      → IfSome t (λ reason. reason ≡ refusal)
  same_refusal refusal None h = h
  same_refusal refusal (Some reason) h = cc h

  -- a text that is refused, or whose parsing ran out of memory, leaves the sink and the view as they were
  pub RenderedBy-refused : (answer : Answer) (v : View Reg) (b : Sunk) (e : Error) → IfSome (told e) (λ refusal. answer ≡ Err refusal)
      → RenderedBy action answer v b b v (Err e)
  RenderedBy-refused (Ok nodes) v b e h =
      without_gate (action nodes v) v v b b (Err e) (renders_refused (action nodes v) v v (ungated b) e
      (not_read nodes (action nodes v) v (told e) h) refl)
  RenderedBy-refused (Err refusal) v b e h = (refl, (refl, same_refusal refusal (told e) h))
