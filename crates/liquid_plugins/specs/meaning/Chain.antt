-- A chain: an expression, and the filters that its value goes through.
use Rattle.std.specs.Prelude.{ℕ, List, [], ◌∷◌, ◌++◌, codes, Result, Ok, Err}
use Rattle.std.specs.List.{join_by}
use Rattle.liquid_error.specs.meaning.Refusal.{Refusal, with_trace, with_context}
use Rattle.liquid_value.specs.meaning.Tree.{Tree}
use Rattle.liquid_value.specs.meaning.Render.{source}
use Rattle.liquid_error.specs.meaning.Refusal.{ok_then}
use Rattle.liquid_runtime.specs.meaning.View.{View}
use Rattle.liquid_runtime.specs.meaning.Erased.{Erased, erase}
use Rattle.liquid_plugins.specs.meaning.Expression.{ExpressionShape, expression_text}
use Rattle.liquid_plugins.specs.meaning.Evaluation.{evaluate}

-- what a kind of filters means: a filter's result, by its input and what it sees of the view, and its shown text
pub record FilterMeaning (F : Type 0) : Type 0 where
  pub answers : F → Tree → Erased → Result Tree Refusal
  pub label : F → List ℕ

-- an expression and filters, in order
pub record ChainShape (F : Type 0) : Type 0 where
  pub entry : ExpressionShape
  pub filters : List F

-- the refusal of a filter of this label, over an input of this source: it gets a trace that names both
abbrev pub from_filter : List ℕ → List ℕ → Refusal → Refusal
from_filter label input r = with_context (codes "input") input (with_context (codes "filter") label (with_trace (codes "Filter error") r))

module _ {F : Type 0} (m : FilterMeaning F) where
  -- what a filter has returned, where its own refusal names it
  abbrev pub filter_answer : F → Tree → Result Tree Refusal → Result Tree Refusal
  filter_answer f input (Ok t) = Ok t
  filter_answer f input (Err refusal) = Err (from_filter (m.label f) (source input) refusal)

  -- a value after all filters, from left to right
  abbrev pub filtered : Erased → List F → Tree → Result Tree Refusal
  filtered seen [] t = Ok t
  filtered seen (f ∷ fs) t = ok_then (filter_answer f t (m.answers f t seen)) (filtered seen fs)

  -- the value of a chain, or its refusal
  abbrev pub chain_value : {Reg : Type 0} → ChainShape F → View Reg → Result Tree Refusal
  chain_value c v = ok_then (evaluate v c.entry) (filtered (erase v) c.filters)

  -- the text that is shown: the entry, ` | `, and the labels with ` | ` between them
  abbrev pub chain_text : ChainShape F → List ℕ
  chain_text c = expression_text c.entry ++ (codes " | " ++ join_by m.label (codes " | ") c.filters)
