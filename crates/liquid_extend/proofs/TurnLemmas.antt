-- What a call returns as a filter, and the turn that writes it.
use Rattle.std.proofs.Common.{◌≡◌, ℕ, List, Option, None, Some, Result, Ok, Err, sym, ap, ◌∙◌}
use Rattle.std.specs.Prelude.{IfSome}
use Rattle.liquid_error.specs.meaning.Refusal.{Refusal, ok_then}
use Rattle.liquid_scalar.specs.meaning.Scalar.{text}
use Rattle.liquid_value.specs.meaning.Render.{render}
use Rattle.liquid_value.specs.meaning.Tree.{Tree, scalar}
use Rattle.liquid_runtime.specs.meaning.Erased.{erase}
use Rattle.liquid_runtime.specs.meaning.View.{View}
use Rattle.liquid_plugins.specs.meaning.Turns.{TurnShape, text_turn, end_turn}
use Rattle.liquid_filters.specs.declared.call.CallShape.{CallShape}
use Rattle.liquid_filters.specs.meaning.Calls.{call_answer, evaluate_arguments}
use Rattle.liquid_filters.specs.meaning.Given.{Given}
use Rattle.liquid_filters.proofs.ArgumentSteps.{call_answer_erased}
use Rattle.liquid_extend.specs.declared.text_tags.kind.TagAnswer.{TagAnswer}
use Rattle.liquid_extend.specs.meaning.text_tags.Nodes.{tag_turn}
use Rattle.liquid_extend.specs.meaning.text_tags.Sense.{TextTagSense, answer_sense}

-- a text as a value, and as what is written
abbrev as_value : List ℕ → Result Tree Refusal
as_value bytes = Ok (scalar (text bytes))

abbrev as_turn : List ℕ → Result TurnShape Refusal
as_turn bytes = Ok (text_turn bytes)

answer_written : (r : Result (List ℕ) Refusal) (t : Tree) → ok_then r as_value ≡ Ok t → ok_then r as_turn ≡ Ok (text_turn (render t))
answer_written (Ok bytes) t is =
    let at : scalar (text bytes) ≡ t = cc is in
    ap (λ u. Ok (text_turn (render u))) at
answer_written (Err refusal) t is = cc is

answer_refused : (r : Result (List ℕ) Refusal) (e : Refusal) → ok_then r as_value ≡ Err e → ok_then r as_turn ≡ Err e
answer_refused (Ok bytes) e is = cc is
answer_refused (Err refusal) e is = ap (λ q. ok_then q (λ t. Ok end_turn)) is

given_written : (r : Result Given Refusal) (f : Given → Result (List ℕ) Refusal) (t : Tree) → ok_then r (λ g. ok_then (f g) as_value) ≡ Ok t
    → ok_then r (λ g. ok_then (f g) as_turn) ≡ Ok (text_turn (render t))
given_written (Ok g) f t is = answer_written (f g) t is
given_written (Err refusal) f t is = cc is

given_refused : (r : Result Given Refusal) (f : Given → Result (List ℕ) Refusal) (e : Refusal)
    → ok_then r (λ g. ok_then (f g) as_value) ≡ Err e → ok_then r (λ g. ok_then (f g) as_turn) ≡ Err e
given_refused (Ok g) f e is = answer_refused (f g) e is
given_refused (Err refusal) f e is = ap (λ q. ok_then q (λ t. Ok end_turn)) is

module _ {K Reg : Type 0} (sense : K → TextTagSense) (call : CallShape (TagAnswer K)) (input : Tree) (v : View Reg) where
  -- the text of what the call returns is written
  pub turn_written : (t : Tree) → call_answer (answer_sense sense) call input (erase v) ≡ Ok t
      → tag_turn sense call v ≡ Ok (text_turn (render t))
  turn_written t is =
      given_written (evaluate_arguments v call.positional call.keyword) (sense call.kind.tag).answers t
      (sym (call_answer_erased (answer_sense sense) call input v) ∙ is)

  -- its error is the turn's
  pub turn_refused : (o : Option Refusal) → IfSome o (λ e. call_answer (answer_sense sense) call input (erase v) ≡ Err e)
      → IfSome o (λ e. tag_turn sense call v ≡ Err e)
  turn_refused None refused = refused
  turn_refused (Some e) refused =
      given_refused (evaluate_arguments v call.positional call.keyword) (sense call.kind.tag).answers e
      (sym (call_answer_erased (answer_sense sense) call input v) ∙ refused)
