-- A call of a filter: its kind and its arguments, which are evaluated from left to right, the positional ones first.
use Rattle.std.specs.Prelude.{
  ℕ,
  suc,
  Bool,
  true,
  false,
  not,
  List,
  [],
  ◌∷◌,
  ◌&&◌,
  nat_eq,
  nat_le,
  length,
  map,
  cond,
  Option,
  None,
  Some,
  Result,
  Ok,
  Err,
  String,
  string_bytes,
}
use Rattle.std.specs.Borrow.{Bor}
use Rattle.std.specs.Cmp.Lexicographic.{pointwise}
use Rattle.std.specs.List.{list_any}
use Rattle.std.specs.declared.alloc.Global.{Global}
use Rattle.liquid_error.specs.meaning.Refusal.{Refusal, ok_then}
use Rattle.liquid_value.specs.declared.cow.ValueCow.{ValueCow}
use Rattle.liquid_value.specs.meaning.Cow.{cow_view}
use Rattle.liquid_value.specs.meaning.Tree.{Tree}
use Rattle.liquid_runtime.specs.meaning.View.{View}
use Rattle.liquid_plugins.specs.declared.expression.Expression.{Expression}
use Rattle.liquid_plugins.specs.meaning.ArgumentsOf.{Arguments}
use Rattle.liquid_plugins.specs.meaning.Chain.{FilterMeaning}
use Rattle.liquid_plugins.specs.meaning.Evaluation.{evaluate}
use Rattle.liquid_plugins.specs.meaning.Expression.{ExpressionShape}
use Rattle.liquid_plugins.specs.meaning.ExpressionOf.{expression_of}
use Rattle.liquid_filters.specs.meaning.value.Errors.{unexpected_arguments}
use Rattle.liquid_filters.specs.declared.call.CallShape.{CallShape}
use Rattle.liquid_filters.specs.declared.call.FilterCall.{FilterCall}
use Rattle.liquid_filters.specs.meaning.Given.{Given}
use Rattle.liquid_filters.specs.meaning.Sense.{FilterSense}

-- an expression, and a value, with a keyword
abbrev pub Named : Type 0
Named = List ℕ × ExpressionShape

abbrev pub named_expression : String Global × Expression → Named
named_expression k = (string_bytes k.0, expression_of k.1)

abbrev pub named_tree : Bor (List ℕ) × ValueCow → List ℕ × Tree
named_tree k = (k.0.now, cow_view k.1)

-- the value of a keyword
abbrev pub keyword_of : List ℕ → List (List ℕ × Tree) → Option Tree
keyword_of name [] = None
keyword_of name (k ∷ ks) = cond (pointwise nat_eq k.0 name) (Some k.1) (keyword_of name ks)

-- the value of each expression, or the first error
abbrev pub evaluate_all : {Reg : Type 0} → View Reg → List ExpressionShape → Result (List Tree) Refusal
evaluate_all v [] = Ok []
evaluate_all v (e ∷ es) = ok_then (evaluate v e) (λ t. ok_then (evaluate_all v es) (λ ts. Ok (t ∷ ts)))

-- the same for expressions with keywords
abbrev pub evaluate_named : {Reg : Type 0} → View Reg → List Named → Result (List (List ℕ × Tree)) Refusal
evaluate_named v [] = Ok []
evaluate_named v (k ∷ ks) = ok_then (evaluate v k.1) (λ t. ok_then (evaluate_named v ks) (λ ts. Ok ((k.0, t) ∷ ts)))

-- the values of all arguments, the positional ones first, or the first error
abbrev pub evaluate_arguments : {Reg : Type 0} → View Reg → List ExpressionShape → List Named → Result Given Refusal
evaluate_arguments v es ks =
    ok_then (evaluate_all v es) (λ ts. ok_then (evaluate_named v ks) (λ us. Ok (record { positional = ts; keyword = us })))

-- the shape of a call
abbrev pub call_of : {K : Type 0} → FilterCall K → CallShape K
call_of f = record { kind = f.kind; positional = map expression_of f.positional.items; keyword = map named_expression f.keyword.items }

-- what a call makes of an input: its kind's result for the values of its arguments
abbrev pub call_answer : {K Reg : Type 0} → (K → FilterSense) → CallShape K → Tree → View Reg → Result Tree Refusal
call_answer sense f input v = ok_then (evaluate_arguments v f.positional f.keyword) ((sense f.kind).answers input)

-- what calls mean, by what their kinds mean
abbrev pub calls : {K : Type 0} → (K → FilterSense) → FilterMeaning (CallShape K)
calls sense =
    record {
      answers = λ f input seen. call_answer sense f input seen;
      label = λ f. (sense f.kind).name;
    }

-- the number of positional arguments that may not be left out
abbrev pub required : List Bool → ℕ
required [] = 0
required (optional ∷ rest) = cond optional (required rest) (suc (required rest))

-- whether there are neither too few nor too many positional arguments
abbrev pub takes : List Bool → ℕ → Bool
takes optional n = nat_le (required optional) n && nat_le n (length optional)

-- whether a name is among these
abbrev pub is_among : List ℕ → List (List ℕ) → Bool
is_among name names = list_any (pointwise nat_eq name) names

-- whether an argument has the keyword
abbrev pub is_given : List ℕ → List Named → Bool
is_given name ks = list_any (λ k. pointwise nat_eq name k.0) ks

-- whether each argument has a keyword of these, and no two have the same
abbrev pub takes_keywords : List (List ℕ) → List Named → Bool
takes_keywords keywords [] = true
takes_keywords keywords (k ∷ ks) = is_among k.0 keywords && (not (is_given k.0 ks) && takes_keywords keywords ks)

-- whether a filter takes these arguments
abbrev pub accepts : FilterSense → Arguments → Bool
accepts sense arguments = takes sense.optional (length arguments.positional) && takes_keywords sense.keywords arguments.keyword

-- what arguments make of a kind: a call, if it takes them
abbrev pub call_made : {K : Type 0} → (K → FilterSense) → K → Arguments → Result (CallShape K) Refusal
call_made sense kind arguments =
    cond (accepts (sense kind) arguments) (Ok (record { kind = kind; positional = arguments.positional; keyword = arguments.keyword }))
    (Err unexpected_arguments)
